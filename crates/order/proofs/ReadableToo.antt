-- A sheet reordered is readable where the first is.
use Rattle.rows.{proofs.Kit.{◌≡◌, List, ℕ, ◌+◌, ◌<◌, ◌≤◌, arith, length}, specs.Below.sum_below, proofs.BelowLaws.sum_part}
use Rattle.sheet.{specs.Head.{Limits, head_of, row_count, bodies_at}, specs.Table.{row_kind, row_length, offset_of, body_of}, specs.Read.Readable, proofs.Readable.{Started, RowOk, readable_says, readable_reads, readable_row, readable_end}}
use Rattle.order.specs.Reordered.{Reordered}
use Rattle.order.proofs.{Same.{head_same, codes_same}, Partner.{partner, bodies_same}}

-- row k ends no later than the last row
row_end : (s : List ℕ) (k : ℕ) → k < row_count (head_of s) → offset_of s k + row_length s k ≤ offset_of s (row_count (head_of s))
unfolding offset_of
row_end s k l = let e = sum_part (row_count (head_of s)) (row_length s) k l in omega arith

pub heads : {a b : List ℕ} → Reordered a b → head_of b ≡ head_of a
heads {a} {b} R = head_same b a R.head

module _ (l : Limits) {a b : List ℕ} (ok : Readable l a) (R : Reordered a b) where
  pub lengths : length b ≡ length a
  unfolding offset_of
  lengths =
      let eb : bodies_at (head_of a) + sum_below (row_count (head_of a)) (row_length b) ≡ length b = rw (heads R) at R.whole in
      let ea = readable_end l a ok in
      let s = bodies_same R in
      omega arith

  start_too : Started l b
  start_too =
      let st = (readable_reads l a ok).start in
      record {
        head = rw lengths st.head;
        layout = rw (heads R) st.layout;
        platforms = rw (heads R) st.platforms;
        initializations = rw (heads R) st.initializations;
        directives = rw (heads R) st.directives;
        bytes = rw lengths st.bytes;
        table = rw (lengths, heads R) st.table;
      }

  row_too : (m : ℕ) → m < row_count (head_of b) → RowOk b m
  row_too m u =
      let p = partner R m (rw (heads R) at u) in
      let k = p.row in
      let A = p.alike in
      let r = readable_row l a ok k p.below in
      record {
        list = rw (heads R, A.kind, p.list) r.list;
        long = rw (A.kind, A.body_length) r.long;
        room = omega (arith, row_end b m u, R.whole);
        codes = rw (A.kind, codes_same (row_kind a k) (body_of b m) (body_of a k) A.body_fields) r.codes;
      }

  pub readable_too : Readable l b
  readable_too = (readable_says l b).1 (record { start = start_too; row = row_too; whole = R.whole })
