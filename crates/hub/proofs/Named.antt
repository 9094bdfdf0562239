-- Each of the eight patterns names every card: one test over the whole table, computed, and the law that turns it into the rule for each pattern.
-- Assumes nothing.
use Prim.Native.Nat.{ℕ, ◌<◌}
use mathlib.Core.Path.{◌≡◌, refl}
use mathlib.Core.Bool.{Bool, true, ◌&&◌}
use native.Mathlib.Omega.{arith}
use lib.Dec.{eqb, ltb}
use borrow.Author.Tests.{eqb-true, ltb-true}
use Rattle.counting.specs.Count.{how_many}
use Rattle.counting.proofs.Bits.{by_cases, and_left, and_right}
use Rattle.counting.proofs.Sums.{one_missing, some_passes}
use Rattle.hub.specs.Patterns.{hub_size, pattern_card, NamesEvery}

-- whether all numbers below n pass a test
abbrev all : ℕ → (ℕ → Bool) → Bool
all n test = eqb (how_many n test) n

all_pass : (n : ℕ) (test : ℕ → Bool) → all n test ≡ true → (i : ℕ) → i < n → test i ≡ true
all_pass n test e i l =
    by_cases (test i) (λ q. q) (λ q. absurd (omega (arith, one_missing n i test l q, eqb-true (how_many n test) n e)))

-- The test of a pattern: only the hub's cards, and each of them once.
abbrev only_cards : (ℕ → ℕ) → Bool
only_cards card = all hub_size (λ k. ltb (card k) hub_size)

abbrev all_once : (ℕ → ℕ) → Bool
all_once card = all hub_size (λ c. eqb (how_many hub_size (λ k. eqb (card k) c)) 1)

abbrev permutes : (ℕ → ℕ) → Bool
permutes card = only_cards card && all_once card

-- a pattern that passes it names every card
names : (card : ℕ → ℕ) → permutes card ≡ true → NamesEvery card
names card e =
    let only = and_left (only_cards card) (all_once card) e in
    let once = and_right (only_cards card) (all_once card) e in
    record {
      inside_hub = λ k l. ltb-true (card k) hub_size (all_pass hub_size (λ k. ltb (card k) hub_size) only k l);
      each_once = λ c l.
          eqb-true (how_many hub_size (λ k. eqb (card k) c)) 1 (all_pass hub_size (λ c. eqb (how_many hub_size (λ k. eqb (card k) c)) 1) once c l);
    }

-- all eight pass it
table_passes : all hub_size (λ p. permutes (pattern_card p)) ≡ true
table_passes = refl

pub patterns_name : (p : ℕ) → p < hub_size → NamesEvery (pattern_card p)
patterns_name p l = names (pattern_card p) (all_pass hub_size (λ p. permutes (pattern_card p)) table_passes p l)

-- in plain words: each card stands at a place
pub card_named : (card : ℕ → ℕ) → NamesEvery card → (c : ℕ) → c < hub_size → (k : ℕ) × (k < hub_size) × (card k ≡ c)
card_named card n c l =
    let found = some_passes hub_size (λ k. eqb (card k) c) (omega (arith, n.each_once c l)) in
    (found.0, found.1, eqb-true (card found.0) c found.2)
