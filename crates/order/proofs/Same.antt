-- What two byte strings with the same first bytes have in common: the head of a sheet, and whether a body's codes are in range.
use Rattle.rows.{proofs.Kit.{◌≡◌, refl, true, List, ℕ, eqb, take, eqb-true}, proofs.Bools.cond_same}
use Rattle.le.proofs.LeLaws.{le_read, byte_read}
use Rattle.igvm_defs.specs.Kinds.{fields, kind_of, spans}
use Rattle.sheet.{specs.Head.head_of, specs.Read.codes_ok}

pub head_same : (x y : List ℕ) → take 16 x ≡ take 16 y → head_of x ≡ head_of y
unfolding head_of
head_same x y h = simp (le_read 16 x y h, byte_read 16 x y h)

-- the codes of a body are fields
pub codes_same : (kind : ℕ) (x y : List ℕ) → take (fields kind) x ≡ take (fields kind) y → codes_ok kind x ≡ codes_ok kind y
unfolding codes_ok fields kind_of spans
codes_same kind x y h =
    cond_same (eqb kind 18) _ _ _ _ (λ e. simp (byte_read (fields 18) x y (at 18 e))) (λ _.
    cond_same (eqb kind 19) _ _ _ _ (λ e. simp (byte_read (fields 19) x y (at 19 e))) (λ _.
    cond_same (eqb kind 44) _ _ _ _ (λ e. simp (byte_read (fields 44) x y (at 44 e))) (λ _.
    cond_same (eqb kind 47) _ _ _ _ (λ e. simp (byte_read (fields 47) x y (at 47 e))) (λ _.
    cond_same (eqb kind 48) _ _ _ _ (λ e. simp (byte_read (fields 48) x y (at 48 e))) (λ _.
    refl)))))
  where
    at : (k : ℕ) → eqb kind k ≡ true → take (fields k) x ≡ take (fields k) y
    at k e = rw (eqb-true kind k e) at h
