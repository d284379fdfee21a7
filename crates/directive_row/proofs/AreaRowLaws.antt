-- Rows that name an area: what is known of it tells the area rule, and what is known afterwards.
use Rattle.rows.{proofs.Kit.{ℕ, ◌<◌, arith, ◌≡◌, refl, sym, ap, ◌∙◌, Bool, true, false, cond, not, ◌||◌, or-false, List, eqb, leb, length, leb-true, eqb-true}, specs.Rows.{Rows, any}, proofs.Bools.and_parts}
use Rattle.le.specs.Le.{le_at}
use Rattle.igvm_defs.{specs.declared.Arch.Arch, specs.Kinds.{Kind, kind_of, spans, length_ok, directive_list}, specs.Refusals.is_fault, proofs.Runs.{each, ◌⨾◌}}
use Rattle.addresses.specs.Addresses.{on_page}
use Rattle.sheet.specs.Read.{codes_ok}
use Rattle.initialization_header.specs.declared.IgvmInitializationHeader.{IgvmInitializationHeader}
use Rattle.directive_header.{specs.declared.IgvmDirectiveHeader.IgvmDirectiveHeader, specs.Directives.directive_of, specs.Fields.is_parameter}
use Rattle.rules.{specs.Regions.{region_passes, table_holds}, specs.Directives.{own_directive_fault, wrong_context_arch, allocates, inserts, is_allocated, bad_area, inside_table, is_context}}
use Rattle.area_table.{specs.declared.AreaTable.AreaTable, specs.AreaTable.{HoldsAreas, state_in}, specs.Table.Knows, proofs.AreaTableLaws.holds_same}
use Rattle.directive_body.specs.Body.{BodyInOrder}
use Rattle.directive_row.specs.Row.{AreaRow, NamedRow, area_state, state_of, state_after}

or_true : (b : Bool) → (b || true) ≡ true
or_true true = refl
or_true false = refl

-- what a state says
state_none : (allocated inserted : Bool) → area_state allocated inserted ≡ 0 → (allocated ≡ false) × (inserted ≡ false)
state_none true true e = absurd (omega arith)
state_none true false e = absurd (omega arith)
state_none false true e = absurd (omega arith)
state_none false false e = (refl, refl)

state_live : (allocated inserted : Bool) → area_state allocated inserted ≡ 1 → (allocated ≡ true) × (inserted ≡ false)
state_live true true e = absurd (omega arith)
state_live true false e = (refl, refl)
state_live false true e = absurd (omega arith)
state_live false false e = absurd (omega arith)

module _ (earlier : Rows IgvmDirectiveHeader) (x : ℕ) where
  -- no earlier row allocates or inserts it
  pub none_says : state_of earlier x ≡ 0 → (any (allocates x) earlier ≡ false) × (any (inserts x) earlier ≡ false)
  unfolding state_of
  none_says e = state_none (any (allocates x) earlier) (any (inserts x) earlier) e

  -- it is allocated
  pub live_says : state_of earlier x ≡ 1 → is_allocated earlier x ≡ true
  unfolding state_of is_allocated
  live_says e = let (a, i) = state_live (any (allocates x) earlier) (any (inserts x) earlier) e in rw (a, i)

-- what the table says is so
pub table_says : {few links areas states : List ℕ} (earlier : Rows IgvmDirectiveHeader) (x n : ℕ) → HoldsAreas few links areas states (state_of earlier) → state_in few links areas states x ≡ n → n < 3
    → state_of earlier x ≡ n
table_says earlier x n h e l = sym (h.told x (λ q. omega arith)) ∙ e

-- ---- 33

module _ (earlier : Rows IgvmDirectiveHeader) (b : List ℕ) (none : state_of earlier (le_at 4 b 8) ≡ 0) where
  area_good : bad_area earlier (directive_of 33 b) ≡ false
  unfolding bad_area directive_of
  area_good = (none_says earlier (le_at 4 b 8) none).0

  area_state_lem : (x : ℕ) → cond (eqb x (le_at 4 b 8)) 1 (state_of earlier x) ≡ state_after earlier (directive_of 33 b) x
  unfolding state_of state_after allocates inserts directive_of
  area_state_lem x = go (eqb x (le_at 4 b 8)) refl
    where
      go : (t : Bool) → eqb x (le_at 4 b 8) ≡ t → cond t 1 (area_state (any (allocates x) earlier) (any (inserts x) earlier)) ≡ area_state (any (allocates x) earlier || t) (any (inserts x) earlier || false)
      go true e = let q : le_at 4 b 8 ≡ x = sym (eqb-true x (le_at 4 b 8) e) in let (a, i) = none_says earlier x (rw q at none) in rw (a, i)
      go false e = rw (or-false (any (allocates x) earlier), or-false (any (inserts x) earlier))

  pub area_row : (arch : Arch) {LINKS NODES : ℕ} (t : AreaTable LINKS NODES) → BodyInOrder arch 33 b → Knows t (λ x. cond (eqb x (le_at 4 b 8)) 1 (state_of earlier x))
      → AreaRow arch earlier 33 b t
  area_row arch t alone h = record { alone = alone; area = area_good; known = holds_same h area_state_lem }

-- ---- 50

module _ (earlier : Rows IgvmDirectiveHeader) (b : List ℕ) (live : state_of earlier (le_at 4 b 12) ≡ 1) where
  insert_good : bad_area earlier (directive_of 50 b) ≡ false
  unfolding bad_area directive_of
  insert_good = rw (live_says earlier (le_at 4 b 12) live)

  insert_state : (x : ℕ) → cond (eqb x (le_at 4 b 12)) 2 (state_of earlier x) ≡ state_after earlier (directive_of 50 b) x
  unfolding state_of state_after allocates inserts directive_of
  insert_state x = go (eqb x (le_at 4 b 12)) refl
    where
      go : (t : Bool) → eqb x (le_at 4 b 12) ≡ t → cond t 2 (area_state (any (allocates x) earlier) (any (inserts x) earlier)) ≡ area_state (any (allocates x) earlier || false) (any (inserts x) earlier || t)
      go true e = rw (or_true (any (inserts x) earlier))
      go false e = rw (or-false (any (allocates x) earlier), or-false (any (inserts x) earlier))

  pub insert_area : (arch : Arch) {LINKS NODES : ℕ} (t : AreaTable LINKS NODES) → length b ≡ 16 → on_page (le_at 8 b 0) ≡ true
      → Knows t (λ x. cond (eqb x (le_at 4 b 12)) 2 (state_of earlier x)) → AreaRow arch earlier 50 b t
  unfolding kind_of spans length_ok codes_ok own_directive_fault directive_of wrong_context_arch is_fault
  insert_area arch t l p h =
      record { alone = record { list = refl; long = rw l; codes = refl; own = rw p }; area = insert_good; known = holds_same h insert_state }

-- no page table holds its address
pub insert_table : (is : Rows IgvmInitializationHeader) (b : List ℕ) (t : Bool) → t ≡ any (region_passes (table_holds (le_at 4 b 8) (le_at 8 b 0))) is → t ≡ false
    → inside_table is (directive_of 50 b) ≡ false
unfolding directive_of
insert_table is b t e f = sym e ∙ f

-- ---- 34 to 43

-- what holds of all of them alike
record Parameter (k : ℕ) : Type 0 where
  kind : kind_of k ≡ kind_of 34
  codes : (b : List ℕ) → codes_ok k b ≡ true
  own : (arch : Arch) (b : List ℕ) → is_fault (own_directive_fault arch (directive_of k b)) ≡ false
  bad : (earlier : Rows IgvmDirectiveHeader) (b : List ℕ) → bad_area earlier (directive_of k b) ≡ not (is_allocated earlier (le_at 4 b 0))
  allocated : (x : ℕ) (b : List ℕ) → allocates x (directive_of k b) ≡ false
  inserted : (x : ℕ) (b : List ℕ) → inserts x (directive_of k b) ≡ false
  table : (is : Rows IgvmInitializationHeader) (b : List ℕ) → inside_table is (directive_of k b) ≡ false
  context : (level bits : ℕ) (b : List ℕ) → is_context level bits (directive_of k b) ≡ false

parameter : (k : ℕ) → is_parameter k ≡ true → Parameter k
unfolding kind_of spans codes_ok own_directive_fault directive_of wrong_context_arch is_fault bad_area allocates inserts
parameter k e =
    let (low, high) = and_parts (leb 34 k) (leb k 43) e in
    let l = leb-true 34 k low in
    let h = leb-true k 43 high in
    each Parameter 34 10 (
    record { kind = refl; codes = λ b. refl; own = λ arch b. refl; bad = λ earlier b. refl; allocated = λ x b. refl; inserted = λ x b. refl; table = λ is b. refl; context = λ level bits b. refl } ⨾
    record { kind = refl; codes = λ b. refl; own = λ arch b. refl; bad = λ earlier b. refl; allocated = λ x b. refl; inserted = λ x b. refl; table = λ is b. refl; context = λ level bits b. refl } ⨾
    record { kind = refl; codes = λ b. refl; own = λ arch b. refl; bad = λ earlier b. refl; allocated = λ x b. refl; inserted = λ x b. refl; table = λ is b. refl; context = λ level bits b. refl } ⨾
    record { kind = refl; codes = λ b. refl; own = λ arch b. refl; bad = λ earlier b. refl; allocated = λ x b. refl; inserted = λ x b. refl; table = λ is b. refl; context = λ level bits b. refl } ⨾
    record { kind = refl; codes = λ b. refl; own = λ arch b. refl; bad = λ earlier b. refl; allocated = λ x b. refl; inserted = λ x b. refl; table = λ is b. refl; context = λ level bits b. refl } ⨾
    record { kind = refl; codes = λ b. refl; own = λ arch b. refl; bad = λ earlier b. refl; allocated = λ x b. refl; inserted = λ x b. refl; table = λ is b. refl; context = λ level bits b. refl } ⨾
    record { kind = refl; codes = λ b. refl; own = λ arch b. refl; bad = λ earlier b. refl; allocated = λ x b. refl; inserted = λ x b. refl; table = λ is b. refl; context = λ level bits b. refl } ⨾
    record { kind = refl; codes = λ b. refl; own = λ arch b. refl; bad = λ earlier b. refl; allocated = λ x b. refl; inserted = λ x b. refl; table = λ is b. refl; context = λ level bits b. refl } ⨾
    record { kind = refl; codes = λ b. refl; own = λ arch b. refl; bad = λ earlier b. refl; allocated = λ x b. refl; inserted = λ x b. refl; table = λ is b. refl; context = λ level bits b. refl } ⨾
    record { kind = refl; codes = λ b. refl; own = λ arch b. refl; bad = λ earlier b. refl; allocated = λ x b. refl; inserted = λ x b. refl; table = λ is b. refl; context = λ level bits b. refl } ⨾ tt) k l (omega arith)

parameter_list : (kind_of 34).list ≡ directive_list
unfolding kind_of spans
parameter_list = refl

parameter_long : length_ok (kind_of 34) 8 ≡ true
unfolding kind_of spans length_ok
parameter_long = refl

module _ (k : ℕ) (e : is_parameter k ≡ true) (b : List ℕ) where
  parameter_state : (earlier : Rows IgvmDirectiveHeader) (x : ℕ) → state_after earlier (directive_of k b) x ≡ state_of earlier x
  unfolding state_of state_after
  parameter_state earlier x =
      rw ((parameter k e).allocated x b, (parameter k e).inserted x b, or-false (any (allocates x) earlier), or-false (any (inserts x) earlier))

  pub parameter_area_lem : (earlier : Rows IgvmDirectiveHeader) → state_of earlier (le_at 4 b 0) ≡ 1 → (arch : Arch) {LINKS NODES : ℕ} (t : AreaTable LINKS NODES) → length b ≡ 8
      → Knows t (state_of earlier) → AreaRow arch earlier k b t
  parameter_area_lem earlier live arch t l h =
      let p = parameter k e in
      record {
        alone = record { list = ap (λ (t : Kind). t.list) p.kind ∙ parameter_list; long = rw (p.kind, l) parameter_long; codes = p.codes b; own = p.own arch b };
        area = rw (p.bad earlier b, live_says earlier (le_at 4 b 0) live);
        known = holds_same h (λ x. sym (parameter_state earlier x));
      }

  parameter_table : (is : Rows IgvmInitializationHeader) → inside_table is (directive_of k b) ≡ false
  parameter_table is = (parameter k e).table is b

  parameter_context : (level bits : ℕ) → is_context level bits (directive_of k b) ≡ false
  parameter_context level bits = (parameter k e).context level bits b

-- ---- what each arm gives

module _ (arch : Arch) (is : Rows IgvmInitializationHeader) (earlier : Rows IgvmDirectiveHeader) where
  pub area_named_lem : (kind : ℕ) (b : List ℕ) {LINKS NODES : ℕ} (t : AreaTable LINKS NODES) → kind ≡ 33 → AreaRow arch earlier 33 b t → NamedRow arch is earlier kind b t
  unfolding directive_of
  area_named_lem kind b t e row = rw e (record { row = row; table = refl; other = λ level bits. refl })

  pub insert_named : (kind : ℕ) (b : List ℕ) {LINKS NODES : ℕ} (t : AreaTable LINKS NODES) → kind ≡ 50 → AreaRow arch earlier 50 b t → inside_table is (directive_of 50 b) ≡ false
      → NamedRow arch is earlier kind b t
  unfolding directive_of
  insert_named kind b t e row table = rw e (record { row = row; table = table; other = λ level bits. refl })

  pub parameter_named : (kind : ℕ) → is_parameter kind ≡ true → (b : List ℕ) {LINKS NODES : ℕ} (t : AreaTable LINKS NODES) → AreaRow arch earlier kind b t
      → NamedRow arch is earlier kind b t
  parameter_named kind p b t row = record { row = row; table = parameter_table kind p b is; other = parameter_context kind p b }
