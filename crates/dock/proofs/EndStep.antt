-- The end of a cycle: what it makes of a record and its bytes shows the model's end of a cycle.
-- Assumes nothing.
use Prim.Native.Nat.{ℕ, zero, suc, ◌+◌, ◌-◌, ◌≤◌, ◌<◌}
use mathlib.Core.Path.{◌≡◌, refl, ap, ◌∙◌}
use mathlib.Core.Bool.{Bool, true, false, ◌&&◌, cond, and-true}
use mathlib.Core.List.{List}
use native.Mathlib.Omega.{arith}
use native.Mathlib.Decide.{dec_lt}
use lib.Dec.{leb}
use lib.ListN.{length, get_or, length-replicate, get_or-replicate}
use borrow.Author.Tests.{le-leb, lt-leb, leb-true}
use Rattle.counting.specs.Count.{how_many}
use Rattle.counting.specs.Frames.{card_of}
use Rattle.schedule.specs.Dock.{end_cycle, deliver, against, perform, Dock as ModelDock}
use Rattle.counting.proofs.Bits.{by_cases, and_right}
use Rattle.schedule.proofs.Deliver.{deliver_within, deliver_from, deliver_held}
use Rattle.header.specs.Limits.{max_cards}
use Rattle.dock.specs.State.{ShowsDock, mark}
use Rattle.dock.specs.Drive.{held_in, handed_over, freed, against_rules, record_made, bytes_made}
use Rattle.dock.specs.declared.Dock.{Dock}
use Rattle.dock.specs.declared.Step.TheVariants.{End}
use Rattle.dock.proofs.Counting.{left_out}
use Rattle.dock.proofs.Frames.{byte_held}
use Rattle.dock.proofs.Freeing.{freed_length, freed_among, freed_before, freed_behind}

-- `deliver` looks at the frames of the list alone
deliver_cong : (f g : ℕ → Bool) (k n : ℕ) → ((i : ℕ) → i < n + k → f i ≡ g i) → deliver f k n ≡ deliver g k n
deliver_cong f g zero n h = refl
deliver_cong f g (suc k) n h =
    rw (h n (omega arith)) (ap (λ x. cond (g n) x n) (deliver_cong f g k (suc n) (λ i l. h i (omega arith))))

module _ {m : ℕ} {cards : List ℕ} {d : ModelDock} {dock : Dock} {memory : List ℕ} (s : ShowsDock m cards d dock memory) where
  pub end_rule : against_rules dock memory End ≡ against m cards end_cycle d
  end_rule = rw (s.pool, s.holds)

  abbrev N : ℕ
  N = deliver d.held (length cards - d.delivered) d.delivered

  abbrev n : ℕ
  n = handed_over dock memory

  handed : n ≡ N
  handed =
      deliver_cong (held_in memory) d.held (dock.frames - dock.delivered) dock.delivered
      (λ i g. byte_held s i (omega (arith, s.frames, s.delivered, s.inside)))
      ∙ rw (s.frames, s.delivered)

  in_list : N ≤ length cards
  in_list = omega (arith, s.inside, deliver_within d.held (length cards - d.delivered) d.delivered)

  onward : d.delivered ≤ N
  onward = deliver_from d.held (length cards - d.delivered) d.delivered

  was_held : (i : ℕ) → d.delivered ≤ i → i < N → d.held i ≡ true
  was_held i = deliver_held d.held (length cards - d.delivered) d.delivered i

  holds : dock.holding - (n - dock.delivered) ≡ how_many (length cards) (λ i. d.held i && leb N i)
  holds =
      let k : d.delivered + (N - d.delivered) ≡ N = omega (arith, onward) in
      let count : how_many (length cards) (λ i. d.held i && leb N i) + (N - d.delivered) ≡ how_many (length cards) d.held =
      rw k at (left_out (length cards) d.delivered d.held s.ahead (N - d.delivered) (omega (arith, in_list, onward))
      (λ i g j. was_held i g (omega (arith, onward)))) in
      omega (arith, s.holds, s.delivered, handed)

  -- before, among, and after the frames handed over now
  marks : (i : ℕ) → i < length cards → get_or (freed dock.delivered n memory) i 0 ≡ mark cards (λ j. d.held j && leb N j) i
  marks i g =
      let room : i < length memory = omega (arith, s.room) in
      elim (dec_lt i N) [
        | yes j ↦
            elim (dec_lt i d.delivered) [
              | yes k ↦
                  by_cases (d.held i) (λ t. absurd (omega (arith, s.ahead i g t)))
                  (λ f. freed_before dock.delivered n memory i room (omega (arith, s.delivered)) ∙ s.marks i g ∙ rw f)
              | no k ↦
                  (let t : d.held i ≡ true = was_held i (omega arith) j in
                  let e : get_or memory i 0 ≡ card_of cards i + 128 = s.marks i g ∙ rw t in
                  rw (t, lt-leb N i j)
                  (omega (arith, freed_among dock.delivered n memory i room (omega (arith, s.delivered)) (omega (arith, handed)))))
            ]
        | no j ↦
            (let k : N ≤ i = omega arith in
            rw (le-leb N i k, and-true (d.held i)) (freed_behind dock.delivered n memory i room (omega (arith, handed)) ∙ s.marks i g))
      ]

  pub end_shows : ShowsDock m cards (perform cards end_cycle d) (record_made dock memory End) (bytes_made dock memory End)
  end_shows =
      record {
        frames = s.frames;
        pool = s.pool;
        delivered = handed;
        holds = holds;
        ended = omega (arith, s.ended);
        broken = refl;
        reading = refl;
        busy = λ c g. get_or-replicate max_cards c false false g;
        flags = length-replicate max_cards false;
        room = omega (arith, s.room, freed_length dock.delivered n memory);
        marks = marks;
        few = s.few;
        each_card = s.each_card;
        inside = in_list;
        ahead = λ i g e. leb-true N i (and_right (d.held i) (leb N i) e);
      }
