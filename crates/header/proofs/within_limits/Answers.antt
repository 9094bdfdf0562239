-- What the check leaves to say of `within_limits`.
use mathlib.Core.Path.{sym}
use mathlib.Core.Logic.{inl, inr}
use native.Mathlib.Omega.{arith}
use Rattle.header.proofs.Judged.{judge_3, judge_4, judge_5, judge_6, judge_accepts}
use Rattle.header.proofs.within_limits.Goals as goal

pub returns-then-h-gt-MODE_SAVE_AND_KEEP : goal.returns-then-h-gt-MODE_SAVE_AND_KEEP
returns-then-h-gt-MODE_SAVE_AND_KEEP c = sym (judge_3 _ (omega arith))

pub returns-then-h-lt1 : goal.returns-then-h-lt1
returns-then-h-lt1 c = sym (judge_4 _ (omega arith) (inl (omega arith)))

pub returns-then-h-gt-MAX_CARDS : goal.returns-then-h-gt-MAX_CARDS
returns-then-h-gt-MAX_CARDS c = sym (judge_4 _ (omega arith) (inr (omega arith)))

pub returns-then-h-lt1-2 : goal.returns-then-h-lt1-2
returns-then-h-lt1-2 c = sym (judge_5 _ (omega arith) (omega arith, omega arith) (inl (omega arith)))

pub returns-then-h-gt-MAX_POOL : goal.returns-then-h-gt-MAX_POOL
returns-then-h-gt-MAX_POOL c = sym (judge_5 _ (omega arith) (omega arith, omega arith) (inr (omega arith)))

pub returns-then-h-gt-MAX_FRAMES : goal.returns-then-h-gt-MAX_FRAMES
returns-then-h-gt-MAX_FRAMES c = sym (judge_6 _ (omega arith) (omega arith, omega arith) (omega arith, omega arith) (omega arith))

pub returns : goal.returns
returns c = sym (judge_accepts _ (omega arith) (omega arith, omega arith) (omega arith, omega arith) (omega arith))
