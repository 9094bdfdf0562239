-- Digits taken from the table and put into a list place by place: the stores one after another are one run of stores (`sets`).
-- Assumes nothing.
use Prim.Native.Nat.{ℕ, zero, suc, ◌+◌, ◌*◌, ◌/◌, ◌%◌, ◌^◌, ◌<◌}
use mathlib.Core.Path.{◌≡◌, refl, sym, ap, ◌∙◌}
use mathlib.Core.List.{List, [], ◌∷◌, ◌++◌, append-nil, append_assoc}
use native.Mathlib.Omega.{arith}
use native.Mathlib.Numerals.{add-one}
use native.Mathlib.Nat.{add-zero, add-suc, div-one, div-div-eq-div-mul, mod-lt, pow-zero, pow-suc, pow-succ', one-le-pow}
use lib.Arith.{digits_div, digits_mod, mod-mul}
use lib.ListN.{length, get_or, set, length-append}
use lib.Seq.{sets}
use Rattle.counting.proofs.Lists.{get_or_tabulate}
use Rattle.counting.proofs.Parts.{sets_append, set_sets}
use Rattle.text.specs.Hex.{digit_of, digit_texts, hex}

-- the table of digits, read at a value
pub text_of : (l : List ℕ) → l ≡ digit_texts → (v : ℕ) → v < 16 → get_or l v 0 ≡ digit_of v
unfolding digit_texts
text_of l e v h = rw e (get_or_tabulate 16 digit_of v 0 h)

-- two digits
pub put_2 :
    (l : List ℕ) (at v high low : ℕ) → v < 256 → high ≡ digit_of (v / 16) → low ≡ digit_of (v % 16)
    → set (set l at high) (at + 1) low ≡ sets l at (hex 2 v)
unfolding hex
put_2 l at v high low h e f =
    let once : v / 16 % 16 ≡ v / 16 = omega arith in
    rw (once, e, f, add-one)

-- A number written in a base digit by digit, `write n v` in n digits: in two runs, the a digits before the last b, and these.
module _
    (base : ℕ) (pos : 0 < base) (digit : ℕ → ℕ) (write : ℕ → ℕ → List ℕ) (none : (v : ℕ) → write 0 v ≡ [])
    (next : (n v : ℕ) → write (suc n) v ≡ write n (v / base) ++ (digit (v % base) ∷ [])) where
  pub write_long : (n v : ℕ) → length (write n v) ≡ n
  write_long zero v = ap length (none v)
  write_long (suc n) v =
      omega (arith, ap length (next n v), length-append (write n (v / base)) (digit (v % base) ∷ []), write_long n (v / base))

  pub write_step : (n a d : ℕ) → d < base → write (suc n) (a * base + d) ≡ write n a ++ (digit d ∷ [])
  write_step n a d h = next n (a * base + d) ∙ rw (digits_div a h, digits_mod a h)

  pub write_split : (a b v : ℕ) → write (a + b) v ≡ write a (v / base ^ b) ++ write b (v % base ^ b)
  write_split a zero v = rw (add-zero, pow-zero, div-one, none (v % 1)) (sym (append-nil (write a v)))
  write_split a (suc b) v =
      let high : v / base / base ^ b ≡ v / base ^ suc b = rw pow-succ' (div-div-eq-div-mul v base (base ^ b)) in
      let low : v % base ^ suc b ≡ v / base % base ^ b * base + v % base = rw pow-suc (mod-mul v (one-le-pow b base pos) pos) in
      rw (add-suc, next (a + b) v, write_split a b (v / base), high, low, write_step b (v / base % base ^ b) (v % base) (mod-lt v pos))
      (append_assoc (write a (v / base ^ suc b)) (write b (v / base % base ^ b)) (digit (v % base) ∷ []))

  pub put_runs :
      (a b : ℕ) (l x y : List ℕ) (at v : ℕ) → x ≡ sets l at (write a (v / base ^ b)) → y ≡ sets x (at + a) (write b (v % base ^ b))
      → y ≡ sets l at (write (a + b) v)
  put_runs a b l x y at v e f =
      rw (f, e, write_split a b v)
      (sets_append l at (write a (v / base ^ b)) (write b (v % base ^ b)) (at + a) (rw (write_long a (v / base ^ b))))

pub put_both :
    (a b : ℕ) (l x y : List ℕ) (at v : ℕ) → x ≡ sets l at (hex a (v / 16 ^ b)) → y ≡ sets x (at + a) (hex b (v % 16 ^ b))
    → y ≡ sets l at (hex (a + b) v)
unfolding hex
put_both = put_runs 16 (omega arith) digit_of hex (λ v. refl) (λ n v. refl)

-- a number's digits from the last one back: the first of so many
pub hex_first : (j v : ℕ) → hex (suc j) v ≡ digit_of (v / 16 ^ j % 16) ∷ hex j v
unfolding hex
hex_first zero v = rw (pow-zero, div-one)
hex_first (suc j) v =
    let e : v / 16 / 16 ^ j ≡ v / 16 ^ suc j = rw pow-succ' (div-div-eq-div-mul v 16 (16 ^ j)) in
    rw (hex_first j (v / 16), e)

-- the rest of a number after one digit more
pub rest_next : (j v : ℕ) {rest : ℕ} → rest ≡ v / 16 ^ j → rest / 16 ≡ v / 16 ^ suc j
rest_next j v e = rw (e, pow-suc) (div-div-eq-div-mul v (16 ^ j) 16)

-- and the digit stored before those that are there
pub put_first :
    (l x : List ℕ) (i j v : ℕ) {rest d : ℕ} → rest ≡ v / 16 ^ j → x ≡ sets l (suc i) (hex j v) → d ≡ digit_of (rest % 16)
    → set x i d ≡ sets l i (hex (suc j) v)
put_first l x i j v e f g = rw (f, g, e, hex_first j v) (set_sets l i (suc i) (digit_of (v / 16 ^ j % 16)) (hex j v) (omega arith))
