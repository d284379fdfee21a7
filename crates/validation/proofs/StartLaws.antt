-- Where the pass over directive rows may start.
use Rattle.rows.{proofs.Kit.{◌≡◌, refl, ap, false, List, ℕ, ◌+◌, ◌≤◌, arith, dec_lt, length}, proofs.BelowLaws.none_any, specs.Below.any_below}
use Rattle.igvm_defs.specs.Refusals.{is_fault}
use Rattle.sheet.{specs.declared.SheetHead.SheetHead, specs.Head.{limits, head_of, row_count, first_directive}, specs.Table.offset_of, specs.Read.{Readable, row_fault}, specs.Walk.{cursor_at, ReadTo}, proofs.Readable.{row_says, readable_row, readable_end}}

-- a readable sheet can be read to each of its rows, and to its end
pub read_to : (s : List ℕ) → Readable limits s → (k : ℕ) → k ≤ row_count (head_of s) → ReadTo s (cursor_at s k)
read_to s ok k h = record { at = refl; high = h; room = room; passed = passed }
  where
    room : offset_of s k ≤ length s
    room =
        elim (dec_lt k (row_count (head_of s))) [
          | yes l ↦ omega (arith, (readable_row limits s ok k l).room)
          | no l ↦ let e : k ≡ row_count (head_of s) = omega arith in rw e (omega (arith, readable_end limits s ok))
        ]

    passed : any_below k (λ j. is_fault (row_fault s j)) ≡ false
    passed = (none_any k (λ j. is_fault (row_fault s j))).1 (λ j l. (row_says s j).1 (readable_row limits s ok j (omega arith)))

-- the first directive row, by the head
pub first_row : (s : List ℕ) (h : SheetHead) → h ≡ head_of s → h.platforms + h.initializations ≡ first_directive s
first_row s h e = ap (λ (x : SheetHead). x.platforms + x.initializations) e
