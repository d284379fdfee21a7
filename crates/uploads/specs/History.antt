-- A history of calls on a desk that begins empty: what it has come to after each, and what each answers.
use Rattle.std.specs.Prelude.{ℕ, zero, suc, List, length}
use Rattle.sheet.specs.Head.{Limits}
use Rattle.answers.specs.Numbers.{verdict_numbers}
use Rattle.sheet_of.specs.SheetOf.{Row}
use Rattle.uploads.specs.{Desk.{Status, after_open, after_row, after_close, told, refusal_numbers, closing}, Query.{list_numbers, list_after}}
use Rattle.uploads.specs.Desk.Status.{Empty}

pub data Call : Type 0 where
  -- revision, arch, page size
  Opening : ℕ → ℕ → ℕ → Call
  Offering : Row → Call
  Closing : Call
  -- a mask, and the bytes lent
  Asking : ℕ → List ℕ → Call

-- what the desk has come to by one call more. A query changes nothing
abbrev pub after_call : Limits → Status → Call → Status
after_call l s (Opening revision arch size) = after_open revision arch size
after_call l s (Offering r) = after_row l s r
after_call l s Closing = after_close l s
after_call l s (Asking given b) = s

-- the numbers that the call answers
abbrev pub call_numbers : Limits → Status → Call → List ℕ
call_numbers l s (Opening revision arch size) = refusal_numbers (told (after_open revision arch size))
call_numbers l s (Offering r) = refusal_numbers (told (after_row l s r))
call_numbers l s Closing = verdict_numbers (closing l s)
call_numbers l s (Asking given b) = list_numbers l s given (length b)

-- after the first n calls of a history
unfoldable pub status_after : Limits → (ℕ → Call) → ℕ → Status
status_after l calls zero = Empty
status_after l calls (suc n) = after_call l (status_after l calls n) (calls n)
