-- It does not matter in what pieces the input comes: a run of turns hands over what the whole input has written.
use Rattle.std.proofs.Common.{None, drop_of_length-le, le_refl, ◌≡◌, refl, sym, ap, ap₂, ◌∙◌, subst, Bool, true, false, cond, List, [], ◌∷◌, ◌++◌, append_assoc, append-nil, ℕ, zero, suc, ◌+◌, ◌≤◌, ◌<◌, arith, eqb-true, eqb, length, take, drop, length-drop, length-append, take-append-drop, drop-drop, take-take}
use Rattle.std.proofs.lemmas.Bool.{eqb-false}
use Rattle.std.proofs.lemmas.List.{drop-append-le}
use Rattle.words.specs.After.{After, yields}
use Rattle.job_records.specs.declared.Cut.{Cut}
use Rattle.job_records.specs.declared.Cut.TheVariants.{Body, Short, Wrong}
use Rattle.job_records.specs.Records.{Wanted, cut_at, next_of, job_by, job_at}
use Rattle.job_records.specs.Laws.{Within, cut_within}
use Rattle.job_records.proofs.Pieces.{later, cut_shift, next_shift, job_shift, body_starts, cut_front, job_front}
use Rattle.job_run.specs.declared.Ran.{Ran}
use Rattle.job_run.specs.Run.{Used, run_of}
use Rattle.job_lines.specs.Text.{line_of}
use Rattle.job_stream.specs.declared.Flow.{Flow}
use Rattle.job_stream.specs.Whole.{behind, wrote_from, wrote}
use Rattle.job_stream.specs.Turns.{unread, ran_of, front, stopped, refilled_of, turn_by, cut_of, turn_of, Refilled, BufferBy, Turn, read_by, Runs, start, then, first, Looped}

-- ---- a whole input, record by record

-- a record that is cut, or has a length that no kind has, ends the job
bad_ends : (r : Used) (m : List ℕ) (j : Wanted) → j ≡ None → (run_of r m j).result.more ≡ false
unfolding run_of
bad_ends r m j e = rw e

-- where the job goes on, fewer bytes are left
fewer : (s : List ℕ) (r : Used) (m : List ℕ) → (run_of r m (job_at s 0)).result.more ≡ true → length (behind s) < length s
unfolding job_at
fewer s r m e = go (cut_at s 0) refl
  where
    go : (c : Cut) → cut_at s 0 ≡ c → length (behind s) < length s
    go (Body k b n) q =
        let i : b + n ≤ length s = subst (Within (length s)) q (cut_within s 0) in
        let z : next_of 0 (cut_at s 0) ≡ b + n = ap (next_of 0) q in
        omega (arith, length-drop (next_of 0 (cut_at s 0)) s, body_starts s 0 k b n q)
    go Short q = let z : ◌≡◌ {A = ℕ} 0 1 = cc (bad_ends r m (job_by s (cut_at s 0)) (ap (job_by s) q)) in omega arith
    go Wrong q = let z : ◌≡◌ {A = ℕ} 0 1 = cc (bad_ends r m (job_by s (cut_at s 0)) (ap (job_by s) q)) in omega arith

cond_alike : (t : Bool) (x y : List ℕ) → (t ≡ true → x ≡ y) → cond t x [] ≡ cond t y []
cond_alike true x y f = f refl
cond_alike false x y f = refl

-- any number of records will do that the input cannot have more of
enough : (k j : ℕ) (s : List ℕ) (n : ℕ) (r : Used) (m : List ℕ) → length s ≤ k → length s ≤ j → wrote_from k s n r m ≡ wrote_from j s n r m
unfolding wrote_from
enough zero zero s n r m p q = refl
enough zero (suc j) [] n r m p q = refl
enough zero (suc j) (x ∷ s) n r m p q = absurd (omega arith)
enough (suc k) zero [] n r m p q = refl
enough (suc k) zero (x ∷ s) n r m p q = absurd (omega arith)
enough (suc k) (suc j) [] n r m p q = refl
enough (suc k) (suc j) (x ∷ s) n r m p q =
    let a : After Ran = run_of r m (job_at (x ∷ s) 0) in
    let rest = behind (x ∷ s) in
    ap (λ (l : List ℕ). line_of (n + 1) a.result.answer ++ l)
    (cond_alike a.result.more (wrote_from k rest (n + 1) a.result.unit a.memory) (wrote_from j rest (n + 1) a.result.unit a.memory)
    (λ e. enough k j rest (n + 1) a.result.unit a.memory (omega (arith, fewer (x ∷ s) r m e)) (omega (arith, fewer (x ∷ s) r m e))))

-- the first record and what is behind it
pub wrote_step : (s : List ℕ) (n : ℕ) (r : Used) (m : List ℕ) → 0 < length s → let a = run_of r m (job_at s 0) in
    wrote s n r m ≡ line_of (n + 1) a.result.answer ++ cond a.result.more (wrote (behind s) (n + 1) a.result.unit a.memory) []
unfolding wrote_from
wrote_step [] n r m h = absurd (omega arith)
wrote_step (x ∷ s) n r m h =
    let a : After Ran = run_of r m (job_at (x ∷ s) 0) in
    let rest = behind (x ∷ s) in
    ap (λ (l : List ℕ). line_of (n + 1) a.result.answer ++ l)
    (cond_alike a.result.more (wrote_from (length s) rest (n + 1) a.result.unit a.memory) (wrote rest (n + 1) a.result.unit a.memory)
    (λ e. enough (length s) (length rest) rest (n + 1) a.result.unit a.memory (omega (arith, fewer (x ∷ s) r m e)) (omega arith)))

-- what is still to be written, from a flow on
abbrev pub to_write : Flow → List ℕ → List ℕ → List ℕ
to_write f m s = cond f.more (wrote s f.number f.unit m) []

-- ---- one turn

nothing_short : (s : List ℕ) → (cut_at s 0 ≡ Short → ⊥) → 0 < length s
nothing_short [] h = absurd (h refl)
nothing_short (x ∷ s) h = omega arith

next_within : (l : ℕ) (c : Cut) → Within l c → next_of 0 c ≤ l
next_within l (Body k b n) h = h
next_within l Short h = omega arith
next_within l Wrong h = omega arith

-- a record that is found is the first one of what is not run yet, whatever comes after it
module _ (f : Flow) (m b rest : List ℕ) (more : f.more ≡ true) (whole : cut_of f b ≡ Short → ⊥) where
  abbrev s : List ℕ
  s = take f.len b

  abbrev p : List ℕ
  p = unread f b

  found : cut_at p 0 ≡ Short → ⊥
  found e = whole (cut_shift s f.at ∙ ap (later f.at) e)

  same_job : job_at (p ++ rest) 0 ≡ job_at s f.at
  same_job = job_front p rest 0 found ∙ sym (job_shift s f.at)

  same_behind : behind (p ++ rest) ≡ drop (next_of f.at (cut_at s f.at)) s ++ rest
  same_behind =
      let k = next_of 0 (cut_at p 0) in
      ap (λ (c : Cut). drop (next_of 0 c) (p ++ rest)) (cut_front p rest 0 found)
      ∙ drop-append-le k p rest (next_within (length p) (cut_at p 0) (cut_within p 0))
      ∙ ap (λ (l : List ℕ). l ++ rest) (drop-drop k f.at s ∙ ap (λ (j : ℕ). drop j s) (sym (next_shift s f.at)))

  ran_writes : (t : Bool) → let g = ran_of f m s t in to_write f m (p ++ rest) ≡ g.said ++ to_write g.after.result g.after.memory (unread g.after.result b ++ rest)
  ran_writes t =
      let some : 0 < length (p ++ rest) = omega (arith, length-append p rest, nothing_short p found) in
      ap (λ (x : Bool). cond x (wrote (p ++ rest) f.number f.unit m) []) more
      ∙ wrote_step (p ++ rest) f.number f.unit m some
      ∙ ap₂ (λ (j : Wanted) (l : List ℕ). let a : After Ran = run_of f.unit m j in
      line_of (f.number + 1) a.result.answer ++ cond a.result.more (wrote l (f.number + 1) a.result.unit a.memory) []) same_job same_behind

-- a read puts its bytes behind those that are not run yet
read_behind : (u c : List ℕ) (l : ℕ) → Refilled u l c → u ++ drop (length u) (take l c) ≡ take l c
read_behind u c l h = ap (λ (x : List ℕ). x ++ drop (length u) (take l c)) (sym h.0 ∙ sym (take-take (length u) l c h.1)) ∙ take-append-drop (length u) (take l c)

-- none came
none_read : (u c : List ℕ) (l : ℕ) → Refilled u l c → l ≡ length u → drop (length u) (take l c) ≡ []
none_read u c l h e = ap (λ (j : ℕ). drop (length u) (take j c)) e ∙ ap (drop (length u)) h.0 ∙ drop_of_length-le u (le_refl (length u))

-- and none will
all_read : (u c rest : List ℕ) (l : ℕ) → Refilled u l c → l ≡ length u → rest ≡ [] → u ++ (drop (length u) (take l c) ++ rest) ≡ u
all_read u c rest l h e z = ap₂ (λ (x y : List ℕ). u ++ (x ++ y)) (none_read u c l h e) z ∙ append-nil u

short_here : (at : ℕ) (c : Cut) → later at c ≡ Short → c ≡ Short
short_here at Short e = refl
short_here at (Body k b n) e = let z : ◌≡◌ {A = ℕ} 0 1 = cc in absurd (omega arith)
short_here at Wrong e = let z : ◌≡◌ {A = ℕ} 0 1 = cc in absurd (omega arith)

-- at the end of the input, the rest
bad_cut : (u : List ℕ) → cut_at u 0 ≡ Short → job_at u 0 ≡ None
unfolding job_at
bad_cut u q = ap (job_by u) q

cond_false : (t : Bool) (x : List ℕ) → t ≡ false → cond t x [] ≡ []
cond_false t x e = ap (λ (b : Bool). cond b x []) e

nothing_written : (u : List ℕ) (n : ℕ) (r : Used) (m : List ℕ) → length u ≡ 0 → wrote u n r m ≡ []
unfolding wrote_from
nothing_written [] n r m e = refl
nothing_written (x ∷ u) n r m e = absurd (omega arith)

module _ (f : Flow) (m u : List ℕ) (more : f.more ≡ true) where
  goes_on : to_write f m u ≡ wrote u f.number f.unit m
  goes_on = ap (λ (x : Bool). cond x (wrote u f.number f.unit m) []) more

  cut_writes : (t : Bool) → cut_at u 0 ≡ Short → (length u ≡ 0 → ⊥) → to_write f m u ≡ (ran_of (front f (length u)) m u t).said
  cut_writes t q z =
      let a : After Ran = run_of f.unit m (job_at u 0) in
      goes_on ∙ wrote_step u f.number f.unit m (omega arith)
      ∙ ap (λ (l : List ℕ). line_of (f.number + 1) a.result.answer ++ l) (cond_false a.result.more _ (bad_ends f.unit m (job_at u 0) (bad_cut u q)))
      ∙ append-nil (line_of (f.number + 1) a.result.answer)

-- what a flow that came of a turn has still to write
left_over : (g : Flow) (n c rest : List ℕ) (y : After Flow) → yields g n ≡ y → to_write g n (unread g c ++ rest) ≡ to_write y.result y.memory (unread y.result c ++ rest)
left_over g n c rest y e = ap (λ (x : After Flow). to_write x.result x.memory (unread x.result c ++ rest)) e

over : (g : Flow) (n x : List ℕ) → g.more ≡ false → to_write g n x ≡ []
over g n x e = cond_false g.more (wrote x g.number g.unit n) e

-- a read, and what it leads to
refill_writes : (f g : Flow) (m n u c rest : List ℕ) → f.more ≡ true → cut_at u 0 ≡ Short → yields g n ≡ (refilled_of f m u g.len g.taken).after → Refilled u g.len c
    → (g.more ≡ false → rest ≡ [])
    → to_write f m (u ++ (drop (length u) (take g.len c) ++ rest)) ≡ (refilled_of f m u g.len g.taken).said ++ to_write g n (unread g c ++ rest)
refill_writes f g m n u c rest more short e h last = go (eqb g.len (length u)) (eqb (length u) 0) refl refl e
  where
    go : (x y : Bool) → eqb g.len (length u) ≡ x → eqb (length u) 0 ≡ y
        → let r = cond x (cond y (record { after = yields (stopped f) m; said = [] }) (ran_of (front f (length u)) m u g.taken)) (record { after = yields (front f g.len) m; said = [] }) in
        yields g n ≡ r.after → to_write f m (u ++ (drop (length u) (take g.len c) ++ rest)) ≡ r.said ++ to_write g n (unread g c ++ rest)
    go false y p q r = ap (to_write f m) (sym (append_assoc u (drop (length u) (take g.len c)) rest) ∙ ap (λ (l : List ℕ). l ++ rest) (read_behind u c g.len h)) ∙ sym (left_over g n c rest (yields (front f g.len) m) r)
    go true true p q r =
        let stops : g.more ≡ false = ap (λ (x : After Flow). x.result.more) r in
        ap (to_write f m) (all_read u c rest g.len h (eqb-true g.len (length u) p) (last stops))
        ∙ goes_on f m u more
        ∙ nothing_written u f.number f.unit m (eqb-true (length u) 0 q)
        ∙ sym (over g n (unread g c ++ rest) stops)
    go true false p q r =
        let stops : g.more ≡ false = ap (λ (x : After Flow). x.result.more) r ∙ bad_ends f.unit m (job_at u 0) (bad_cut u short) in
        let line = (ran_of (front f (length u)) m u g.taken).said in
        ap (to_write f m) (all_read u c rest g.len h (eqb-true g.len (length u) p) (last stops))
        ∙ cut_writes f m u more g.taken short (eqb-false (length u) 0 q)
        ∙ sym (append-nil line)
        ∙ ap (λ (l : List ℕ). line ++ l) (sym (over g n (unread g c ++ rest) stops))

not_short : (c : Cut) (k b n : ℕ) → c ≡ Body k b n → c ≡ Short → ⊥
not_short c k b n p q = let z : ◌≡◌ {A = ℕ} 0 1 = cc in omega arith

wrong_short : (c : Cut) → c ≡ Wrong → c ≡ Short → ⊥
wrong_short c p q = let z : ◌≡◌ {A = ℕ} 0 1 = cc in omega arith

-- what was to be written before a turn is what the turn hands over, and what is to be written after it
pub turn_writes : (f g : Flow) (m n b c rest : List ℕ) → f.more ≡ true → Turn f m b g n c → (g.more ≡ false → rest ≡ [])
    → to_write f m (unread f b ++ (read_by f b g.len c (cut_of f b) ++ rest)) ≡ (turn_of f m b g.len g.taken).said ++ to_write g n (unread g c ++ rest)
unfolding turn_of
turn_writes f g m n b c rest more h last = go (cut_of f b) refl h.leaves h.buffer
  where
    ran : (k : Cut) → (k ≡ Short → ⊥) → cut_of f b ≡ k → yields g n ≡ (ran_of f m (take f.len b) g.taken).after → c ≡ b
        → to_write f m (unread f b ++ rest) ≡ (ran_of f m (take f.len b) g.taken).said ++ to_write g n (unread g c ++ rest)
    ran k other q r e =
        let t = ran_of f m (take f.len b) g.taken in
        ran_writes f m b rest more (λ z. other (sym q ∙ z)) g.taken
        ∙ ap (λ (l : List ℕ). t.said ++ l) (sym (left_over g n b rest t.after r) ∙ ap (λ (x : List ℕ). to_write g n (unread g x ++ rest)) (sym e))

    go : (k : Cut) → cut_of f b ≡ k → yields g n ≡ (turn_by f m b g.len g.taken k).after → BufferBy f b g.len c k
        → to_write f m (unread f b ++ (read_by f b g.len c k ++ rest)) ≡ (turn_by f m b g.len g.taken k).said ++ to_write g n (unread g c ++ rest)
    go (Body k a l) q r e = ran (Body k a l) (not_short (Body k a l) k a l refl) q r e
    go Wrong q r e = ran Wrong (wrong_short Wrong refl) q r e
    go Short q r e = refill_writes f g m n (unread f b) c rest more (short_here f.at (cut_at (unread f b) 0) (sym (cut_shift (take f.len b) f.at) ∙ q)) r e last

-- ---- a run of turns

both : (t : Bool) → t ≡ true → t ≡ false → ⊥
both t p q = let z : ◌≡◌ {A = ℕ} 0 1 = cc in omega arith

-- the input i, with whatever is still to come: what a run of turns hands over is what the whole of it has written, as far as it has come
pub runs_write : {f : Flow} {m b : List ℕ} {g : Flow} {n c : List ℕ} {k : ℕ} {i o : List ℕ} → Runs f m b k i o g n c → (rest : List ℕ) → (g.more ≡ false → rest ≡ [])
    → to_write f m (unread f b ++ (i ++ rest)) ≡ o ++ to_write g n (unread g c ++ rest)
runs_write start rest last = refl
runs_write {f} {m} {b} (then {i} {o} {x} {y} {z} g n c t more turn) rest last =
    let came = read_by x z g.len c (cut_of x z) in
    let said = (turn_of x y z g.len g.taken).said in
    ap (λ (l : List ℕ). to_write f m (unread f b ++ l)) (append_assoc i came rest)
    ∙ runs_write t (came ++ rest) (λ e. absurd (both x.more more e))
    ∙ ap (λ (l : List ℕ). o ++ l) (turn_writes x g y n z c rest more turn last)
    ∙ sym (append_assoc o said (to_write g n (unread g c ++ rest)))

-- the loop, from the start of a job: what it hands over is the front of what its input and all that may follow have written
pub looped_front : (m b : List ℕ) (g : Flow) (n c : List ℕ) (l : Looped first m b g n c) (rest : List ℕ) → (g.more ≡ false → rest ≡ [])
    → wrote (l.input ++ rest) 0 None m ≡ l.output ++ to_write g n (unread g c ++ rest)
looped_front m b g n c l rest last = runs_write l.runs rest last

-- where the job is over, it is all of that
pub looped_writes : (m b : List ℕ) (g : Flow) (n c : List ℕ) (l : Looped first m b g n c) → g.more ≡ false → l.output ≡ wrote l.input 0 None m
looped_writes m b g n c l e =
    sym (ap (λ (i : List ℕ). wrote i 0 None m) (sym (append-nil l.input)) ∙ looped_front m b g n c l [] (λ _. refl)
    ∙ ap (λ (x : List ℕ). l.output ++ x) (over g n (unread g c ++ []) e) ∙ append-nil l.output)
