-- The head of a record in 20 words, in fixed order.
-- Assumes nothing.
use Rattle.std.specs.Prelude.{ℕ, List, [], ◌∷◌, get_or}
use Rattle.pool.specs.declared.Pool.{Pool}
use Rattle.record.specs.declared.Head.{Head}

-- the pool whose words stand at these places
abbrev pub pool_in : List ℕ → ℕ → ℕ → ℕ → ℕ → Pool
pool_in ws i j k l = record { fresh = get_or ws i 0; free = get_or ws j 0; used = get_or ws k 0; top = get_or ws l 0 }

abbrev pub head_in : List ℕ → Head
head_in ws = record {
  layout = record { levels = get_or ws 0 0; hosts = get_or ws 1 0; shadows = get_or ws 2 0; frames = get_or ws 3 0; bits = get_or ws 4 0 };
  pools = record { host = pool_in ws 5 6 7 8; shadow = pool_in ws 9 10 11 12 };
  root = record { 0 = get_or ws 13 0 };
  held = record { 0 = get_or ws 14 0 };
  set = get_or ws 15 0;
  tally = record { on = get_or ws 16 0; charged = get_or ws 17 0; at = get_or ws 18 0; count = get_or ws 19 0 };
}

-- and back
abbrev pub head_words : Head → List ℕ
head_words h =
    let l = h.layout in
    let p = h.pools.host in
    let q = h.pools.shadow in
    let t = h.tally in
    l.levels ∷ l.hosts ∷ l.shadows ∷ l.frames ∷ l.bits ∷ p.fresh ∷ p.free ∷ p.used ∷ p.top ∷ q.fresh ∷ q.free ∷ q.used ∷ q.top ∷ h.root.0 ∷ h.held.0 ∷ h.set ∷ t.on ∷ t.charged ∷ t.at ∷ t.count ∷ []
