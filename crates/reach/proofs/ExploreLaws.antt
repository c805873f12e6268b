-- What keeps the exploration's invariant: a node marked, an address put on the stack or taken from it, a node expanded, a writer noted. At the end every
-- marked node is expanded, so that the marked nodes are the reached ones.
use Prim.Native.Nat.{ℕ, ◌+◌, ◌-◌, ◌≤◌, ◌<◌}
use mathlib.Core.Path.{◌≡◌, refl, sym, ap, ◌∙◌}
use mathlib.Core.Bool.{Bool, true, false}
use mathlib.Core.List.{List}
use mathlib.Core.Logic.{◌⊎◌, inl, inr, ⊎_elim}
use native.Mathlib.Decide.{ℕ_discrete}
use native.Mathlib.Omega.{arith}
use lib.ListN.{length, get_or, length-set}
use lib.Seq.{get_or-set_same, get_or-set_other}
use Rattle.bitset.specs.Bits.{contains, inserted, size_of}
use Rattle.bitset.proofs.SetLaws.{inserted-length, inserted-kept, inserted-known, inserted-only}
use Rattle.bitset.proofs.CountLaws.{size-most, size-new}
use Rattle.reach.specs.declared.Node.{Node}
use Rattle.reach.specs.Ways.{node_at, clear_at, writes_at}
use Rattle.reach.specs.Paths.{◌∈◌, PathTo, here, onward}
use Rattle.reach.specs.Inner.Explore.{marked, clear_with, set_with, Pushes, Waiting, Expanded, Exploring, Idle}
use Rattle.reach.proofs.MarkLaws.{mark-kept, mark-only, mark-self, mark-clear-buffer, mark-set-buffer, mark-clear-held}

module _ {read : ℕ → ℕ} {Busy : Node → Type 0} {clear set writers stack : List ℕ} {depth : ℕ} where
  -- a node marked is at work
  pub mark-busy :
      Exploring read Busy clear set writers stack depth → (n : Node) → n.address < 65536 →
      Exploring read (λ x. Busy x ⊎ (x ≡ n)) (clear_with clear n) (set_with set n) writers stack depth
  mark-busy k n h =
      record {
        clear_buffer = mark-clear-buffer clear set n k.clear_buffer;
        set_buffer = mark-set-buffer clear set n k.set_buffer;
        writers_long = k.writers_long;
        stack_long = k.stack_long;
        room = omega (arith, k.room, mark-clear-held clear set n k.clear_buffer.long k.set_buffer.long h);
        stacked = λ x w. mark-kept clear set n x (k.stacked x w);
        closed = λ x q. ⊎_elim (λ e. inl (inr e)) (λ p. was x (k.closed x p)) (mark-only clear set n x q);
        sound = λ a q. let w = k.sound a q in (w.0, mark-kept clear set n (node_at a w.0) w.1, w.2);
      }
    where
      was : (x : Node) → Busy x ⊎ (Waiting stack depth x ⊎ Expanded read clear set writers x) → (Busy x ⊎ (x ≡ n)) ⊎ (Waiting stack depth x ⊎ Expanded read (clear_with clear n) (set_with set n) writers x)
      was x (inl b) = inl (inl b)
      was x (inr (inl w)) = inr (inl w)
      was x (inr (inr d)) = inr (inr (record { followed = λ m p. mark-kept clear set n m (d.followed m p); noted = d.noted }))

  -- a node at work, with D clear, waits on the stack
  pub stack-busy :
      {a : ℕ} → Exploring read (λ x. Busy x ⊎ (x ≡ clear_at a)) clear set writers stack depth → depth < size_of clear → marked clear set (clear_at a) ≡ true →
      Exploring read Busy clear set writers (lib.ListN.set stack depth a) (depth + 1)
  stack-busy {a} k h e =
      record {
        clear_buffer = k.clear_buffer;
        set_buffer = k.set_buffer;
        writers_long = k.writers_long;
        stack_long = length-set stack depth a ∙ k.stack_long;
        room = omega arith;
        stacked = λ x w. waited x w (ℕ_discrete w.0 depth);
        closed = λ x q. was x (k.closed x q);
        sound = k.sound;
      }
    where
      here-it : get_or (lib.ListN.set stack depth a) depth 0 ≡ a
      here-it = get_or-set_same stack depth a 0 (omega (arith, k.stack_long, size-most clear))

      there : (i : ℕ) → (i ≡ depth → ⊥) → get_or (lib.ListN.set stack depth a) i 0 ≡ get_or stack i 0
      there i q = get_or-set_other stack depth i a 0 q

      waited : (x : Node) (w : Waiting (lib.ListN.set stack depth a) (depth + 1) x) → Dec (w.0 ≡ depth) → marked clear set x ≡ true
      waited x w (yes q) = ap (marked clear set) (w.2 ∙ ap clear_at (ap (λ (i : ℕ). get_or (lib.ListN.set stack depth a) i 0) q ∙ here-it)) ∙ e
      waited x w (no q) = k.stacked x (w.0, omega (arith, w.1), w.2 ∙ ap clear_at (there w.0 q))

      was : (x : Node) → (Busy x ⊎ (x ≡ clear_at a)) ⊎ (Waiting stack depth x ⊎ Expanded read clear set writers x) → Busy x ⊎ (Waiting (lib.ListN.set stack depth a) (depth + 1) x ⊎ Expanded read clear set writers x)
      was x (inl (inl b)) = inl b
      was x (inl (inr q)) = inr (inl (depth, omega arith, q ∙ ap clear_at (sym here-it)))
      was x (inr (inl w)) = inr (inl (w.0, omega (arith, w.1), w.2 ∙ ap clear_at (sym (there w.0 (λ q. omega (arith, w.1))))))
      was x (inr (inr d)) = inr (inr d)

  -- a marked node whose row writes R7 is noted
  pub note-writer :
      (n : Node) → marked clear set n ≡ true → writes_at read n ≡ true → Exploring read Busy clear set writers stack depth →
      Exploring read Busy clear set (inserted writers n.address) stack depth
  note-writer n m e k =
      record {
        clear_buffer = k.clear_buffer;
        set_buffer = k.set_buffer;
        writers_long = inserted-length writers n.address ∙ k.writers_long;
        stack_long = k.stack_long;
        room = k.room;
        stacked = k.stacked;
        closed = λ x q. was x (k.closed x q);
        sound = λ a q. ⊎_elim (λ i. rw i (n.double, m, e)) (λ p. k.sound a p) (inserted-only writers n.address a q);
      }
    where
      was : (x : Node) → Busy x ⊎ (Waiting stack depth x ⊎ Expanded read clear set writers x) → Busy x ⊎ (Waiting stack depth x ⊎ Expanded read clear set (inserted writers n.address) x)
      was x (inl b) = inl b
      was x (inr (inl w)) = inr (inl w)
      was x (inr (inr d)) = inr (inr (record { followed = d.followed; noted = λ q. inserted-kept writers n.address x.address (d.noted q) }))

module _ {read : ℕ → ℕ} {Busy : Node → Type 0} {clear set writers stack : List ℕ} {depth : ℕ} where
  -- an address marked with D clear waits on the stack, if it is new
  pub push-work :
      {clear' stack' : List ℕ} {depth' t : ℕ} → Exploring read Busy clear set writers stack depth → Pushes clear clear' stack stack' depth depth' t →
      Exploring read Busy clear' set writers stack' depth'
  push-work {clear'} {stack'} {depth'} {t} k w = go (contains clear t) refl
    where
      go : (b : Bool) → contains clear t ≡ b → Exploring read Busy clear' set writers stack' depth'
      go true q =
          let a : clear' ≡ clear = w.clear_is ∙ inserted-known clear t q in
          let b : stack' ≡ stack = w.stack_is ∙ rw q in
          let c : depth' ≡ depth = w.depth_is ∙ rw q in
          rw (a, b, c) k
      go false q =
          let b : stack' ≡ lib.ListN.set stack depth t = w.stack_is ∙ rw q in
          let c : depth' ≡ depth + 1 = w.depth_is ∙ rw q in
          let l = k.clear_buffer.long in
          rw (w.clear_is, b, c)
          (stack-busy (mark-busy k (clear_at t) w.fits) (omega (arith, k.room, size-new clear t l w.fits q)) (mark-self clear set (clear_at t) l k.set_buffer.long w.fits))

  -- nodes at work are expanded, or others are at work for them
  pub work-done :
      {Busy' : Node → Type 0} → Exploring read Busy clear set writers stack depth → ((x : Node) → Busy x → Busy' x ⊎ Expanded read clear set writers x) →
      Exploring read Busy' clear set writers stack depth
  work-done {Busy'} k f =
      record {
        clear_buffer = k.clear_buffer;
        set_buffer = k.set_buffer;
        writers_long = k.writers_long;
        stack_long = k.stack_long;
        room = k.room;
        stacked = k.stacked;
        closed = λ x q. was x (k.closed x q);
        sound = k.sound;
      }
    where
      was : (x : Node) → Busy x ⊎ (Waiting stack depth x ⊎ Expanded read clear set writers x) → Busy' x ⊎ (Waiting stack depth x ⊎ Expanded read clear set writers x)
      was x (inl b) = ⊎_elim (λ c. inl c) (λ d. inr (inr d)) (f x b)
      was x (inr r) = inr r

module _ {read : ℕ → ℕ} {clear set writers stack : List ℕ} {depth : ℕ} (k : Exploring read Idle clear set writers stack depth) where
  -- the node on top of the stack is taken up
  pub taken-up : 0 < depth → Exploring read (λ x. x ≡ clear_at (get_or stack (depth - 1) 0)) clear set writers stack (depth - 1)
  taken-up h =
      record {
        clear_buffer = k.clear_buffer;
        set_buffer = k.set_buffer;
        writers_long = k.writers_long;
        stack_long = k.stack_long;
        room = omega (arith, k.room);
        stacked = λ x w. k.stacked x (w.0, omega (arith, w.1), w.2);
        closed = λ x q. was x (k.closed x q);
        sound = k.sound;
      }
    where
      split : (x : Node) (w : Waiting stack depth x) → Dec (w.0 ≡ depth - 1) → (x ≡ clear_at (get_or stack (depth - 1) 0)) ⊎ (Waiting stack (depth - 1) x ⊎ Expanded read clear set writers x)
      split x w (yes q) = inl (w.2 ∙ ap (λ (i : ℕ). clear_at (get_or stack i 0)) q)
      split x w (no q) = inr (inl (w.0, omega (arith, w.1), w.2))

      was : (x : Node) → Idle x ⊎ (Waiting stack depth x ⊎ Expanded read clear set writers x) → (x ≡ clear_at (get_or stack (depth - 1) 0)) ⊎ (Waiting stack (depth - 1) x ⊎ Expanded read clear set writers x)
      was x (inl b) = absurd b
      was x (inr (inl w)) = split x w (ℕ_discrete w.0 (depth - 1))
      was x (inr (inr d)) = inr (inr d)

  pub top-marked : 0 < depth → marked clear set (clear_at (get_or stack (depth - 1) 0)) ≡ true
  top-marked h = k.stacked _ (depth - 1, omega arith, refl)

  -- nothing is left: every marked node is expanded
  pub all_done : depth ≡ 0 → (n : Node) → marked clear set n ≡ true → Expanded read clear set writers n
  all_done e n q = go (k.closed n q)
    where
      go : Idle n ⊎ (Waiting stack depth n ⊎ Expanded read clear set writers n) → Expanded read clear set writers n
      go (inl b) = absurd b
      go (inr (inl w)) = absurd (omega (arith, w.1))
      go (inr (inr d)) = d

-- what putting an address on the stack does to the marks
module _ (clear set : List ℕ) {clear' stack stack' : List ℕ} {depth depth' t : ℕ} (w : Pushes clear clear' stack stack' depth depth' t) where
  pub push_kept : (x : Node) → marked clear set x ≡ true → marked clear' set x ≡ true
  push_kept x h = rw w.clear_is (mark-kept clear set (clear_at t) x h)

  pub push-only : (x : Node) → marked clear' set x ≡ true → (x ≡ clear_at t) ⊎ (marked clear set x ≡ true)
  push-only x h = mark-only clear set (clear_at t) x (rw w.clear_is at h)

  module _ (l : length clear ≡ 1024) (p : length set ≡ 1024) where
    pub push-self : marked clear' set (clear_at t) ≡ true
    push-self = rw w.clear_is (mark-self clear set (clear_at t) l p w.fits)

    pub push-held : size_of clear ≤ size_of clear'
    push-held = rw w.clear_is (mark-clear-held clear set (clear_at t) l p w.fits)

    -- one more waits only where one more is marked
    pub push-paid : depth' + size_of clear ≤ depth + size_of clear'
    push-paid = go (contains clear t) refl
      where
        go : (b : Bool) → contains clear t ≡ b → depth' + size_of clear ≤ depth + size_of clear'
        go true q =
            let a : clear' ≡ clear = w.clear_is ∙ inserted-known clear t q in
            let c : depth' ≡ depth = w.depth_is ∙ rw q in
            rw (a, c) (omega arith)
        go false q =
            let c : depth' ≡ depth + 1 = w.depth_is ∙ rw q in
            rw (w.clear_is, c) (omega (arith, size-new clear t l w.fits q))

-- what holds of a path's first node, and passes to each node that it leads to, holds of its last
pub path-keeps : {next : Node → List Node} {from : Node} {n : Node} (P : Node → Type 0) → P from → ((x y : Node) → P x → y ∈ next x → P y) → PathTo next from n → P n
path-keeps P p f here = p
path-keeps P p f (onward {n = x} {m = y} q e) = f x y (path-keeps P p f q) e

pub path_join : {next : Node → List Node} {a b c : Node} → PathTo next a b → PathTo next b c → PathTo next a c
path_join p here = p
path_join p (onward q e) = onward (path_join p q) e
