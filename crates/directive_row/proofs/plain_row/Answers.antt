use Rattle.rows.{proofs.Bools.and_parts, proofs.Kit.{rules, refl, sym, ◌∙◌}}
use Rattle.directive_row.proofs.{PlainLaws.{page_plain, memory_plain, snp_plain, range_plain, native_plain, cca_plain, block_plain, measurement_plain, x64_plain, aarch64_plain, is_aarch64_lem}}
use Rattle.directive_row.proofs.plain_row.Goals as goal

pub returns-in-32 : goal.returns-in-32
returns-in-32 c = record { plain_row = λ arch x e. page_plain arch _ _ _ c.in-32.is (c.page_data.ensures arch e); contexts_unchanged = (λ e. refl, search rules) }

pub returns-in-44 : goal.returns-in-44
returns-in-44 c = record { plain_row = λ arch x e. memory_plain arch _ _ _ c.in-44.is (c.required_memory.ensures arch e); contexts_unchanged = (λ e. refl, search rules) }

pub returns-in-45 : goal.returns-in-45
returns-in-45 c = record { plain_row = λ arch x e. snp_plain arch _ _ _ c.in-45.is (c.snp_vp_context.ensures arch e); contexts_unchanged = (λ e. refl, search rules) }

pub returns-in-46 : goal.returns-in-46
returns-in-46 c = record { plain_row = λ arch x e. let (t, l) = and_parts _ _ e in native_plain arch _ _ _ c.in-46.is (sym x ∙ t) l; contexts_unchanged = (λ e. refl, search rules) }

pub returns-in-47 : goal.returns-in-47
returns-in-47 c = record { plain_row = λ arch x e. let (t, v) = c.vbs_context.ensures.stands_value e in x64_plain arch _ _ _ _ c.in-47.is (sym x ∙ t) v; contexts_unchanged = c.vbs_context.ensures.contexts_unchanged }

pub returns-in-48 : goal.returns-in-48
returns-in-48 c = record { plain_row = λ arch x e. let (t, v) = c.vbs_context-in-48.ensures.stands_value e in aarch64_plain arch _ _ _ _ c.in-48.is (is_aarch64_lem arch _ x t) v; contexts_unchanged = c.vbs_context-in-48.ensures.contexts_unchanged }

pub returns-in-49 : goal.returns-in-49
returns-in-49 c = record { plain_row = λ arch x e. let (t, l) = and_parts _ _ e in cca_plain arch _ _ _ c.in-49.is (is_aarch64_lem arch _ x t) l; contexts_unchanged = (λ e. refl, search rules) }

pub returns-in-51 : goal.returns-in-51
returns-in-51 c = record { plain_row = λ arch x e. range_plain arch _ _ _ c.in-51.is (c.error_range.ensures arch e); contexts_unchanged = (λ e. refl, search rules) }

pub returns-in-52 : goal.returns-in-52
returns-in-52 c = record { plain_row = λ arch x e. block_plain arch _ _ _ c.in-52.is e; contexts_unchanged = (λ e. refl, search rules) }

pub returns-in-53 : goal.returns-in-53
returns-in-53 c = record { plain_row = λ arch x e. measurement_plain arch _ _ _ c.in-53.is e; contexts_unchanged = (λ e. refl, search rules) }
