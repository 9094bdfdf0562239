-- What the calls on bytes and a position answer.
-- Assumes nothing.
use Prim.Native.Nat.{ℕ, ◌+◌, ◌-◌, ◌≤◌, ◌<◌}
use mathlib.Core.Bool.{true, false}
use mathlib.Core.Path.{◌≡◌, ◌∙◌}
use mathlib.Core.List.{List, []}
use lib.Dec.{ltb}
use lib.ListN.{length, take, drop}
use borrow.Author.Tests.{ne_eqb, lt-ltb, le-ltb, ltb-true}
use Rattle.counting.proofs.Bits.{and_left, and_right}
use Rattle.header.specs.Limits.{max_frames}
use Rattle.header.specs.Editions.{line_digits}
use Rattle.header.specs.Heading.{edition_of}
use Rattle.ticket.specs.Ticket.{parse, refusal_of, line_start}
use Rattle.ticket.proofs.Answers.{cut_line}
use Rattle.walker.specs.Walk.{opened, has_line, line_at, place_at, next_at}

module _ (t : List ℕ) where
  pub none_left : {k : ℕ} → k ≡ refusal_of (parse t) → (k ≡ 0 → ⊥) → [] ≡ opened t
  unfolding opened
  none_left e n = rw (← e, ne_eqb _ _ n)

  pub whole : 0 ≡ refusal_of (parse t) → t ≡ opened t
  unfolding opened
  whole e = rw (← e)

module _ (bytes : List ℕ) (p : ℕ) where
  pub past_limit : max_frames ≤ p → false ≡ has_line bytes p
  unfolding has_line
  past_limit l = rw (le-ltb p max_frames l)

  pub in_limit :
      {at d : ℕ} → p < max_frames → at ≡ line_start bytes p → d ≡ line_digits (edition_of bytes) → ltb (at + d) (length bytes) ≡ has_line bytes p
  unfolding has_line
  in_limit l a q = rw (lt-ltb p max_frames l, a, q)

  pub room_has : p < max_frames → line_start bytes p + line_digits (edition_of bytes) < length bytes → has_line bytes p ≡ true
  unfolding has_line
  room_has l r = rw (lt-ltb p max_frames l, lt-ltb (line_start bytes p + line_digits (edition_of bytes)) (length bytes) r)

  module _ (e : has_line bytes p ≡ true) where
    below : p < max_frames
    unfolding has_line
    below = ltb-true _ _ (and_left _ _ e)

    inside : line_start bytes p + line_digits (edition_of bytes) < length bytes
    unfolding has_line
    inside = ltb-true _ _ (and_right (ltb p max_frames) _ e)

    pub has_room : (p < max_frames) × (line_start bytes p + line_digits (edition_of bytes) < length bytes)
    has_room = (below, inside)

    pub the_line :
        {at d : ℕ} → at ≡ line_start bytes p → d ≡ line_digits (edition_of bytes) → take (at + d - at) (drop at bytes) ≡ line_at bytes p
    unfolding line_at
    the_line a q = cut_line bytes p a q ∙ rw e

    pub its_place : line_start bytes p ≡ place_at bytes p
    unfolding place_at
    its_place = rw e

    pub moves_on : p + 1 ≡ next_at bytes p
    unfolding next_at
    moves_on = rw e

  module _ (e : has_line bytes p ≡ false) where
    pub no_line : [] ≡ line_at bytes p
    unfolding line_at
    no_line = rw e

    pub no_place : 0 ≡ place_at bytes p
    unfolding place_at
    no_place = rw e

    pub stays : p ≡ next_at bytes p
    unfolding next_at
    stays = rw e
