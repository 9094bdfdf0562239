-- The public theorems of the library: the table of the calls' answers, and that these depend on the values of a ticket alone. The contract of
-- each call (src/) says its whole outcome for every input.
-- Assumes nothing.
use Prim.Native.Nat.{ℕ}
use mathlib.Core.Path.{◌≡◌, refl, sym, ◌∙◌}
use mathlib.Core.Bool.{false}
use mathlib.Core.List.{List, map}
use Rattle.text.specs.UpperCase.{upper_case}
use Rattle.header.specs.declared.Header.{Header}
use Rattle.ticket.specs.Print.{as_edition1, without_seconds}
use Rattle.ticket.specs.Seconds.{seconds_of}
use Rattle.ticket.specs.Ticket.{accepted, parse}
use Rattle.ticket.proofs.Main as ticket
use Rattle.firmware.specs.Calls.{Call, with_ticket, tells_edition, result_of}
use Rattle.firmware.specs.Cases.{Case, call, expected, cases}
use Rattle.firmware.proofs.Cases as table
use Rattle.firmware.proofs.Values as values

-- Every refusal of document 01, and answers that are no refusal, in plain numbers: what the calls answer is what the table says.
pub cases_hold : map (λ (x : Case). result_of (call x)) cases ≡ map expected cases
cases_hold = table.cases_hold

-- "a plan depends on the values alone": two texts that are accepted with the same values, the seconds among them, whatever the case of their
-- digits, get the same answer from every call that takes a ticket, and leave the same in lent memory; so do both tickets of a join. A line is
-- handed back as a place of the caller's ticket, and what stands there are the caller's own bytes.
pub values_alone :
    (s t : List ℕ) (h : Header) (cards : List ℕ) → parse s ≡ accepted h cards → parse t ≡ accepted h cards → seconds_of s ≡ seconds_of t
    → (c : Call) → result_of (with_ticket s c) ≡ result_of (with_ticket t c)
values_alone s t h cards e f x = values.alike s t (e ∙ sym f) x

-- "The second has no say in the plan": two accepted tickets with the same mode, cards, pool and list, of whatever editions, get the same plan,
-- printed text, verdict, run, counts and dock, and leave the same in lent memory. Only `parse`, `line` and a join tell the edition.
pub second_no_say :
    (s t : List ℕ) (g h : Header) (cards : List ℕ) → parse s ≡ accepted g cards → parse t ≡ accepted h cards
    → g.mode ≡ h.mode → g.cards ≡ h.cards → g.pool ≡ h.pool
    → (c : Call) → tells_edition c ≡ false → result_of (with_ticket s c) ≡ result_of (with_ticket t c)
second_no_say = values.no_say

-- In particular an accepted ticket and the edition 01 ticket of its mode, cards, pool and list, which is accepted too.
pub edition_1_twin :
    (t : List ℕ) (h : Header) (cards : List ℕ) → parse t ≡ accepted h cards
    → (parse (without_seconds h cards) ≡ accepted (as_edition1 h) cards)
    × ((c : Call) → tells_edition c ≡ false → result_of (with_ticket t c) ≡ result_of (with_ticket (without_seconds h cards) c))
edition_1_twin t h cards e =
    let fits = values.fits_first h cards (ticket.accepted_fits t h cards e) in
    let twin = ticket.written_edition_1 (as_edition1 h) cards refl fits in
    (twin, values.no_say t (without_seconds h cards) h (as_edition1 h) cards e twin refl refl refl)

-- And so do two texts, accepted or not, that differ in the case of their digits alone.
pub case_alone : (s t : List ℕ) → upper_case s ≡ upper_case t → (c : Call) → result_of (with_ticket s c) ≡ result_of (with_ticket t c)
case_alone s t e = values.alike s t (ticket.case_alone s t e).0 (ticket.case_alone s t e).1
