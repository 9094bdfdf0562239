-- The records that the steps of a dock make of a record (document 01, "The dock").
-- Assumes nothing.
use Rattle.std.specs.Prelude.{ℕ, ◌+◌, ◌-◌, min, true, false, set, replicate}
use Rattle.header.specs.Limits.{max_cards}
use Rattle.dock.specs.State.{most_cycles}
use Rattle.dock.specs.declared.Dock.{Dock}

-- broken off, and nothing else changed
abbrev pub broken_off : Dock → Dock
broken_off dock =
    record {
      frames = dock.frames;
      pool = dock.pool;
      delivered = dock.delivered;
      holding = dock.holding;
      ended = dock.ended;
      broken = true;
      reading = dock.reading;
      busy = dock.busy;
    }

-- after a read: the turn of card c is used, and h frames are held
abbrev pub turn_used : Dock → ℕ → ℕ → Dock
turn_used dock c h =
    record {
      frames = dock.frames;
      pool = dock.pool;
      delivered = dock.delivered;
      holding = h;
      ended = dock.ended;
      broken = dock.broken;
      reading = true;
      busy = set dock.busy c true;
    }

-- after a drop: h frames are held
abbrev pub now_holding : Dock → ℕ → Dock
now_holding dock h =
    record {
      frames = dock.frames;
      pool = dock.pool;
      delivered = dock.delivered;
      holding = h;
      ended = dock.ended;
      broken = dock.broken;
      reading = dock.reading;
      busy = dock.busy;
    }

-- after the end of a cycle: n frames are handed over, their buffers are free, one more cycle has ended, and every card may read again
abbrev pub cycle_ended : Dock → ℕ → Dock
cycle_ended dock n =
    record {
      frames = dock.frames;
      pool = dock.pool;
      delivered = n;
      holding = dock.holding - (n - dock.delivered);
      ended = min (dock.ended + 1) most_cycles;
      broken = false;
      reading = false;
      busy = replicate max_cards false;
    }
