-- What the parts of `start` found, as its answer to the ticket.
-- Assumes nothing.
use Prim.Native.Nat.{ℕ, ◌≤◌, ◌<◌}
use mathlib.Core.Path.{◌≡◌, refl, ◌∙◌}
use mathlib.Core.List.{List, ◌++◌}
use native.Mathlib.Omega.{arith}
use lib.ListN.{length, drop}
use Rattle.std.specs.Prelude.{Result, Ok, Err}
use borrow.Author.Tests.{lt-ltb, le-ltb}
use Rattle.header.specs.declared.Header.{Header}
use Rattle.ticket.specs.Ticket.{Parsed, accepted, refused, parse}
use Rattle.ticket.specs.Grounds.{Fits}
use Rattle.ticket.proofs.Accepted.{fits}
use Rattle.schedule.specs.Dock.{empty_dock}
use Rattle.dock.specs.State.{ShowsDock, new_dock}
use Rattle.dock.proofs.Main.{empty_shows}
use Rattle.dock_start.specs.Start.{start_of, memory_started}
use Rattle.dock.specs.declared.Dock.{Dock}

-- the two clauses of the contract
abbrev pub Started : Parsed → List ℕ → Result Dock ℕ → List ℕ → Type 0
Started ticket before r after = (r ≡ start_of ticket (length before)) × (after ≡ memory_started ticket before)

-- a list that is read, and memory
module _ (h : Header) (cards before : List ℕ) (f : Fits h cards) where
  pub too_short : length before < h.frames → Started (accepted h cards) before (Err 10) before
  unfolding start_of memory_started
  too_short l =
      let g : length before < length cards = omega (arith, f.frames) in
      (rw (lt-ltb (length before) (length cards) g), rw (lt-ltb (length before) (length cards) g))

  pub started : h.frames ≤ length before → (x : Dock) → x ≡ new_dock h.pool h.frames
      → (after : List ℕ) → after ≡ cards ++ drop (length cards) before
      → Started (accepted h cards) before (Ok x) after
  unfolding start_of memory_started
  started l x e after p =
      let g : length cards ≤ length before = omega (arith, f.frames) in
      (rw (e, le-ltb (length before) (length cards) g, f.frames), rw (le-ltb (length before) (length cards) g) p)

-- a ticket that is refused
pub ticket_refused : (k : ℕ) (before : List ℕ) → Started (refused k) before (Err k) before
unfolding start_of memory_started
ticket_refused k before = (refl, refl)

-- a started dock shows the empty dock of the model
pub start_shows : (h : Header) (cards before : List ℕ) → Fits h cards → length cards ≤ length before
    → ShowsDock h.pool cards empty_dock (new_dock h.pool (length cards)) (cards ++ drop (length cards) before)
start_shows h cards before f l =
    empty_shows h.pool cards (drop (length cards) before) (omega (arith, f.frames, f.few)) (λ i g. omega (arith, f.each_card i g, f.card_range.1))

-- the answer to an accepted ticket with memory for its list
pub started_shows : (t before : List ℕ) (h : Header) (cards : List ℕ) → parse t ≡ accepted h cards → length cards ≤ length before
    → (r : Result Dock ℕ) (after : List ℕ) → Started (parse t) before r after
    → (r ≡ Ok (new_dock h.pool (length cards))) × ShowsDock h.pool cards empty_dock (new_dock h.pool (length cards)) after
unfolding start_of memory_started
started_shows t before h cards e l r after s =
    let answer : r ≡ Ok (new_dock h.pool (length cards)) = s.0 ∙ rw (e, le-ltb (length before) (length cards) l) in
    let memory : after ≡ cards ++ drop (length cards) before = s.1 ∙ rw (e, le-ltb (length before) (length cards) l) in
    rw (answer, memory) (refl, start_shows h cards before (fits t h cards e) l)
