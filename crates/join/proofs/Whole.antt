-- The joined ticket is one that the reader accepts, with the merged frames.
-- Assumes nothing.
use Prim.Native.Nat.{ℕ, suc, ◌^◌, ◌+◌, ◌≤◌, ◌<◌}
use mathlib.Core.Path.{◌≡◌, refl, sym, ap, ◌∙◌}
use mathlib.Core.List.{List, [], ◌∷◌, map}
use mathlib.Core.Logic.{inr}
use native.Mathlib.Omega.{arith}
use lib.ListN.{length, length-map, get_or-map}
use Rattle.counting.specs.Frames.{card_of}
use Rattle.header.specs.Editions.{edition2}
use Rattle.header.specs.Limits.{Within, max_cards, max_pool, max_frames}
use Rattle.header.specs.declared.Header.{Header}
use Rattle.ticket.specs.Grounds.{Fits}
use Rattle.ticket.specs.Seconds.{seconds_of, second_of, SecondsFit}
use Rattle.ticket.specs.Ticket.{accepted, parse}
use Rattle.ticket.proofs.Main as ticket
use Rattle.ticket.proofs.Seconds.{as_frames}
use Rattle.merged_lines.specs.Merge.{Frame, frames, frame_at, second_in, NotFalling, merge}
use Rattle.merged_lines.proofs.Merging.{merge_length, frames_length, frame_at_is}
use Rattle.merged_lines.proofs.Order.{merge_all, merge_not_falling}
use Rattle.join.specs.Join.{joined_header, joined_text}

abbrev no_frame : Frame
no_frame = record { second = 0; card = 0 }

-- the cards and the seconds of a list of frames make the same frames again
pub frames_again : (all : List Frame) → frames (map (λ f. f.card) all) (map (λ f. f.second) all) ≡ all
frames_again [] = refl
frames_again (x ∷ all) = ap (λ (l : List Frame). x ∷ l) (frames_again all)

-- the frames of an accepted ticket of edition 02
module _ (t : List ℕ) (h : Header) (cards : List ℕ) (e : parse t ≡ accepted h cards) (two : h.edition ≡ edition2) where
  fit : SecondsFit h.edition (length cards) (seconds_of t)
  fit = ticket.accepted_seconds t h cards e

  pub each : length (seconds_of t) ≡ length cards
  each = fit.each ∙ as_frames h.edition (length cards) two

  pub many : length (frames cards (seconds_of t)) ≡ length cards
  many = frames_length cards (seconds_of t) each

  at : (i : ℕ) → i < length cards → frame_at (frames cards (seconds_of t)) i ≡ record { second = second_of (seconds_of t) i; card = card_of cards i }
  at i l = frame_at_is cards (seconds_of t) i l each

  pub not_falling : NotFalling (frames cards (seconds_of t))
  not_falling i l =
      let k : suc i < length cards = omega (arith, l, many) in
      let here : second_in (frames cards (seconds_of t)) i ≡ second_of (seconds_of t) i = ap (λ (f : Frame). f.second) (at i (omega arith)) in
      let next : second_in (frames cards (seconds_of t)) (suc i) ≡ second_of (seconds_of t) (suc i) = ap (λ (f : Frame). f.second) (at (suc i) k) in
      omega (arith, here, next, fit.order i (omega (arith, k, each)))

  pub cards_in : (i : ℕ) → i < length (frames cards (seconds_of t)) → (frame_at (frames cards (seconds_of t)) i).card < h.cards
  cards_in i l =
      let k : i < length cards = omega (arith, l, many) in
      let here : (frame_at (frames cards (seconds_of t)) i).card ≡ card_of cards i = ap (λ (f : Frame). f.card) (at i k) in
      omega (arith, here, (ticket.accepted_fits t h cards e).each_card i k)

  pub seconds_in_is : (i : ℕ) → i < length (frames cards (seconds_of t)) → (frame_at (frames cards (seconds_of t)) i).second < 16 ^ 8
  seconds_in_is i l =
      let k : i < length cards = omega (arith, l, many) in
      let here : (frame_at (frames cards (seconds_of t)) i).second ≡ second_of (seconds_of t) i = ap (λ (f : Frame). f.second) (at i k) in
      omega (arith, here, fit.small i (omega (arith, k, each)))

-- two lists of frames, merged and written as a ticket
module _
    (g : Header) (a b : List Frame) (range : Within max_cards g.cards) (pool : Within max_pool g.pool)
    (few : length a + length b ≤ max_frames)
    (cards-a : (i : ℕ) → i < length a → (frame_at a i).card < g.cards) (cards-b : (i : ℕ) → i < length b → (frame_at b i).card < g.cards)
    (seconds-a : (i : ℕ) → i < length a → (frame_at a i).second < 16 ^ 8) (seconds-b : (i : ℕ) → i < length b → (frame_at b i).second < 16 ^ 8)
    (order-a : NotFalling a) (order-b : NotFalling b) where
  abbrev all : List Frame
  all = merge a b

  abbrev cards : List ℕ
  cards = map (λ f. f.card) all

  abbrev seconds : List ℕ
  seconds = map (λ f. f.second) all

  card_at_is : (i : ℕ) → card_of cards i ≡ (frame_at all i).card
  card_at_is i = get_or-map (λ f. f.card) all i no_frame

  second_at_is : (i : ℕ) → second_of seconds i ≡ second_in all i
  second_at_is i = get_or-map (λ f. f.second) all i no_frame

  cards_many : length cards ≡ length all
  cards_many = length-map all (λ f. f.card)

  seconds_many : length seconds ≡ length all
  seconds_many = length-map all (λ f. f.second)

  its_fits : Fits (joined_header g (length all)) cards
  its_fits =
      record {
        edition = inr refl;
        mode = omega arith;
        card_range = range;
        pool = pool;
        frames = cards_many;
        few = omega (arith, few, merge_length a b);
        each_card = λ i l.
            omega (arith, card_at_is i, merge_all (λ f. f.card < g.cards) a b cards-a cards-b i (omega (arith, l, cards_many)));
      }

  its_seconds : SecondsFit edition2 (length cards) seconds
  its_seconds =
      record {
        each = seconds_many ∙ sym cards_many ∙ sym (as_frames edition2 (length cards) refl);
        small = λ i l.
            omega (arith, second_at_is i, merge_all (λ f. f.second < 16 ^ 8) a b seconds-a seconds-b i (omega (arith, l, seconds_many)));
        order = λ i l.
            omega (arith, second_at_is i, second_at_is (suc i), merge_not_falling a b order-a order-b i (omega (arith, l, seconds_many)));
      }

  pub read_again :
      (parse (joined_text g all) ≡ accepted (joined_header g (length all)) cards) × (seconds_of (joined_text g all) ≡ seconds)
  read_again = ticket.written_accepted (joined_header g (length all)) cards seconds its_fits its_seconds
