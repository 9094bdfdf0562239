-- What lines are sorted by, and whose turn it is: keys have the order of the seconds.
-- Assumes nothing.
use Prim.Native.Nat.{ℕ, ◌+◌, ◌*◌, ◌≤◌, ◌<◌}
use mathlib.Core.Path.{◌≡◌, refl, sym, ◌∙◌}
use mathlib.Core.List.{List}
use native.Mathlib.Omega.{arith}
use native.Mathlib.Decide.{dec_lt}
use borrow.Author.Tests.{lt-ltb, le-ltb}
use Rattle.text.specs.Text.{number, Line}
use Rattle.text.specs.UpperCase.{upper_case}
use Rattle.header.specs.Editions.{edition2, second_digits}
use Rattle.frame_lines.specs.Lines.{second_at}
use Rattle.merged_lines.specs.Packed.{packed}
use Rattle.merged_lines.specs.Lines.{HasLines, no_key, key_at}
use Rattle.merged_lines.proofs.Capitals.{upper_small, keys_order}
use Rattle.merged_lines.proofs.OneLine.{second_digits_at}

-- what the line at an offset is sorted by
module _ (s : List ℕ) (end from : ℕ) where
  pub key_here : from < end → packed (upper_case s) (from + 2) 8 ≡ key_at s end from
  unfolding key_at
  key_here l = rw (lt-ltb from end l)

  pub key_past : end ≤ from → no_key ≡ key_at s end from
  unfolding key_at
  key_past l = rw (le-ltb from end l)

-- line i of n
module _ (s : List ℕ) (n i : ℕ) (h : HasLines s n) (l : i < n) where
  pub its_line : Line s (11 * i) 10
  unfolding second_digits
  its_line = h i l

  key_small : key_at s (11 * n) (11 * i) < no_key
  key_small = omega (arith, key_here s (11 * n) (11 * i) (omega arith), upper_small s (11 * i + 2) (second_digits_at s (11 * i) its_line))

  second_is : second_at edition2 s i ≡ number s (11 * i + 2) 8
  unfolding second_at second_digits
  second_is = refl

-- keys have the order of the seconds
key_order :
    (a b : List ℕ) (n m i j : ℕ) → HasLines a n → HasLines b m → i < n → j < m
    → (second_at edition2 a i < second_at edition2 b j → key_at a (11 * n) (11 * i) < key_at b (11 * m) (11 * j))
    × (second_at edition2 a i ≡ second_at edition2 b j → key_at a (11 * n) (11 * i) ≡ key_at b (11 * m) (11 * j))
key_order a b n m i j its_lines others k l =
    let order =
    keys_order a b (11 * i + 2) (11 * j + 2) 8 (second_digits_at a (11 * i) (its_line a n i its_lines k))
    (second_digits_at b (11 * j) (its_line b m j others l)) in
    let x = second_is a n i its_lines k in
    let y = second_is b m j others l in
    let here = key_here a (11 * n) (11 * i) (omega arith) in
    let there = key_here b (11 * m) (11 * j) (omega arith) in (
      λ h. omega (arith, here, there, order.0 (omega (arith, h, x, y))),
      λ h. sym here ∙ order.1 (sym x ∙ h ∙ y) ∙ there,
    )

-- whose turn it is
module _ (a b : List ℕ) (n m : ℕ) (its_lines : HasLines a n) (others : HasLines b m) (i j : ℕ) (p : i ≤ n) (q : j ≤ m) (r : i + j < n + m) where
  pub first_turn : key_at a (11 * n) (11 * i) ≤ key_at b (11 * m) (11 * j) → (i < n) × (j < m → second_at edition2 a i ≤ second_at edition2 b j)
  first_turn h =
      elim (dec_lt i n) [
        | yes k ↦ (
          k,
          λ l.
              elim (dec_lt (second_at edition2 b j) (second_at edition2 a i)) [
                | yes lt ↦ absurd (omega (arith, h, (key_order b a m n j i others its_lines l k).0 lt))
                | no le ↦ omega arith
              ],
        )
        | no k ↦ absurd (omega (arith, h, key_past a (11 * n) (11 * i) (omega arith), key_small b m j others (omega arith)))
      ]

  pub second_turn : key_at b (11 * m) (11 * j) < key_at a (11 * n) (11 * i) → (j < m) × (i < n → second_at edition2 b j < second_at edition2 a i)
  second_turn h =
      elim (dec_lt j m) [
        | yes l ↦ (
          l,
          λ k.
              let order = key_order a b n m i j its_lines others k l in
              elim (dec_lt (second_at edition2 b j) (second_at edition2 a i)) [
                | yes lt ↦ lt
                | no le ↦
                    elim (dec_lt (second_at edition2 a i) (second_at edition2 b j)) [
                      | yes lt ↦ absurd (omega (arith, h, order.0 lt))
                      | no ge ↦ absurd (omega (arith, h, order.1 (omega arith)))
                    ]
              ],
        )
        | no l ↦ absurd (omega (arith, h, key_past b (11 * m) (11 * j) (omega arith), key_small a n i its_lines (omega arith)))
      ]
