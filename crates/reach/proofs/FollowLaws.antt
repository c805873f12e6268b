-- The invariant of the loop that follows a path, and what its turns keep; then that of the loop over the stack.
use Prim.Native.Nat.{ℕ, zero, suc, ◌+◌, ◌-◌, ◌≤◌, ◌<◌, suc-le-suc}
use mathlib.Core.Path.{◌≡◌, refl, sym, ap, ◌∙◌, subst}
use mathlib.Core.Bool.{Bool, true, false, cond, true≢false}
use mathlib.Core.List.Memᴰ
use mathlib.Core.List.{List, [], ◌∷◌}
use mathlib.Core.Logic.{◌⊎◌, inl, inr, ⊎_elim}
use native.Mathlib.Nat.{le_of_suc-le-suc, zero-lt-suc}
use native.Mathlib.Omega.{arith}
use borrow.Author.Count.{below_more}
use borrow.Author.Tests.{not-true, not-false}
use lib.ListN.{length, get_or, replicate}
use Rattle.bitset.specs.Bits.{contains, inserted, size_of}
use Rattle.bitset.proofs.SetLaws.{inserted_same, empty-has-none, empty-buffer}
use Rattle.bitset.proofs.CountLaws.{size-most}
use Rattle.reach.specs.declared.Node.{Node}
use Rattle.reach.specs.declared.ways.Ways.{Ways}
use Rattle.reach.specs.declared.ways.Ways.TheVariants.{End, Writes, One, Two}
use Rattle.reach.specs.Ways.{node_at, clear_at, successors, writes_at}
use Rattle.reach.specs.Paths.{◌∈◌, PathTo, here, onward, Reached}
use Rattle.reach.specs.Inner.Explore.{nodes_of, is_write, marked, clear_with, set_with, Marks, Pushes, Expanded, Exploring, Idle, Grown}
use Rattle.reach.specs.Summary.{is_writer}
use Rattle.reach.specs.Reach.{ReachedSet}
use Rattle.reach.proofs.SummaryLaws.{same_bool, writer-is, is-writer}
use Rattle.reach.proofs.MarkLaws.{marked-within, mark-kept, mark-only, mark-self, mark-known-clear, mark-known-set, mark-more, mark-clear-held, mark-set-held}
use Rattle.reach.proofs.ExploreLaws.{mark-busy, note-writer, work-done, push-work, push_kept, push-only, push-self, push-held, push-paid, all_done, path-keeps, path_join}

-- nothing done yet
pub grown-none : {next : Node → List Node} {clear set : List ℕ} {depth : ℕ} → Grown next clear set clear set depth depth
grown-none = record { kept = λ n h. h; led = λ n h. (n, h, here); paid = omega arith }

module _ {next : Node → List Node} {clear₀ set₀ clear set : List ℕ} {depth₀ depth : ℕ} (g : Grown next clear₀ set₀ clear set depth₀ depth)
    (l : length clear ≡ 1024) (p : length set ≡ 1024) (from : Node) (e : marked clear set from ≡ true) where
  -- a node that a marked one leads to
  led_on : (n : Node) → n ∈ next from → (x : Node) → (x ≡ n) ⊎ (marked clear set x ≡ true) → (m : Node) × (marked clear₀ set₀ m ≡ true) × PathTo next m x
  led_on n m x (inl i) = let w = g.led from e in (w.0, w.1, subst (PathTo next w.0) (sym i) (onward w.2 m))
  led_on n m x (inr i) = g.led x i

  pub grown-mark : (n : Node) → n.address < 65536 → n ∈ next from → Grown next clear₀ set₀ (clear_with clear n) (set_with set n) depth₀ depth
  grown-mark n h m =
      record {
        kept = λ x q. mark-kept clear set n x (g.kept x q);
        led = λ x q. led_on n m x (mark-only clear set n x q);
        paid = omega (arith, g.paid, mark-clear-held clear set n l p h, mark-set-held clear set n l p h);
      }

  pub grown-push : {clear' stack stack' : List ℕ} {depth' t : ℕ} → Pushes clear clear' stack stack' depth depth' t → clear_at t ∈ next from → Grown next clear₀ set₀ clear' set depth₀ depth'
  grown-push {t = t} w m =
      record {
        kept = λ x q. push_kept clear set w x (g.kept x q);
        led = λ x q. led_on (clear_at t) m x (push-only clear set w x q);
        paid = omega (arith, g.paid, push-paid clear set w l p);
      }

-- a path is followed, and stands at a node
pub record Following (read : ℕ → ℕ) (clear₀ set₀ : List ℕ) (depth₀ : ℕ) (clear set writers stack : List ℕ) (depth : ℕ) (node : Node) : Type 0 where
  pub here_marked : marked clear set node ≡ true
  pub work : Exploring read (λ x. x ≡ node) clear set writers stack depth
  pub grown : Grown (successors read) clear₀ set₀ clear set depth₀ depth

-- it is followed to its end
pub record Followed (read : ℕ → ℕ) (clear₀ set₀ : List ℕ) (depth₀ : ℕ) (clear set writers stack : List ℕ) (depth : ℕ) : Type 0 where
  pub work : Exploring read Idle clear set writers stack depth
  pub grown : Grown (successors read) clear₀ set₀ clear set depth₀ depth

-- a row that does not write R7 has nothing to be noted
unnoted : {A : Type 0} {b : Bool} → b ≡ false → b ≡ true → A
unnoted p q = let z : true ≡ false = sym q ∙ p in absurd (true≢false z)

module _ {read : ℕ → ℕ} {clear₀ set₀ clear set writers stack : List ℕ} {depth₀ depth : ℕ} {node : Node}
    (k : Following read clear₀ set₀ depth₀ clear set writers stack depth node) where
  -- the node leads nowhere else
  follow-ends : Expanded read clear set writers node → Followed read clear₀ set₀ depth₀ clear set writers stack depth
  follow-ends d = record { work = work-done k.work (λ x e. inr (subst (Expanded read clear set writers) (sym e) d)); grown = k.grown }

  -- its address is noted
  follow-notes : writes_at read node ≡ true → Following read clear₀ set₀ depth₀ clear set (inserted writers node.address) stack depth node
  follow-notes e = record { here_marked = k.here_marked; work = note-writer node k.here_marked e k.work; grown = k.grown }

  -- a target is marked, and waits if it is new
  follow-push :
      {clear' stack' : List ℕ} {depth' t : ℕ} → Pushes clear clear' stack stack' depth depth' t → clear_at t ∈ successors read node →
      Following read clear₀ set₀ depth₀ clear' set writers stack' depth' node
  follow-push w m =
      record {
        here_marked = push_kept clear set w node k.here_marked;
        work = push-work k.work w;
        grown = grown-push k.grown k.work.clear_buffer.long k.work.set_buffer.long node k.here_marked w m;
      }

-- the path goes on to a node n, and what else the node leads to is marked; no fewer are marked with D clear than before
pub record Leading (read : ℕ → ℕ) (clear₀ set₀ : List ℕ) (depth₀ size : ℕ) (clear set writers stack : List ℕ) (depth : ℕ) (node n : Node) : Type 0 where
  pub stands : Following read clear₀ set₀ depth₀ clear set writers stack depth node
  pub quiet : writes_at read node ≡ false
  pub leads : n ∈ successors read node
  pub others : (x : Node) → x ∈ successors read node → (x ≡ n) ⊎ (marked clear set x ≡ true)
  pub held : size ≤ size_of clear

module _ {read : ℕ → ℕ} {clear₀ set₀ clear set writers stack clear' set' : List ℕ} {depth₀ size depth : ℕ} {node n : Node} {new : Bool}
    (o : Leading read clear₀ set₀ depth₀ size clear set writers stack depth node n) (w : Marks clear set clear' set' n new) where
  -- n was marked before
  pub lead-back : new ≡ false → Followed read clear₀ set₀ depth₀ clear' set' writers stack depth
  lead-back f =
      let q : marked clear set n ≡ true = not-false _ (sym w.told ∙ f) in
      rw (w.clear_is ∙ mark-known-clear clear set n q, w.set_is ∙ mark-known-set clear set n q)
      (follow-ends o.stands (record { followed = λ x m. ⊎_elim (λ i. ap (marked clear set) i ∙ q) (λ i. i) (o.others x m); noted = λ i. unnoted o.quiet i }))

  -- n is new
  pub lead-on : new ≡ true → Following read clear₀ set₀ depth₀ clear' set' writers stack depth n
  lead-on f =
      let k = o.stands in
      let l = k.work.clear_buffer.long in
      let p = k.work.set_buffer.long in
      let s = mark-self clear set n l p w.fits in
      let done : Expanded read (clear_with clear n) (set_with set n) writers node =
      record {
        followed = λ y m. ⊎_elim (λ j. ap (marked (clear_with clear n) (set_with set n)) j ∙ s) (λ j. mark-kept clear set n y j) (o.others y m);
        noted = λ i. unnoted o.quiet i;
      } in
      rw (w.clear_is, w.set_is)
      (record {
        here_marked = s;
        work =
            work-done (mark-busy k.work n w.fits)
            (λ x b. ⊎_elim (λ i. inr (subst (Expanded read (clear_with clear n) (set_with set n) writers) (sym i) done)) (λ i. inl i) b);
        grown = grown-mark k.grown l p node k.here_marked n w.fits o.leads;
      })

  pub lead-less : new ≡ true → 131072 - (size_of clear' + size_of set') < 131072 - (size + size_of set)
  lead-less f =
      let k = o.stands.work in
      rw (w.clear_is, w.set_is)
      (omega (arith, o.held, mark-more clear set n k.clear_buffer.long k.set_buffer.long w.fits (not-true _ (sym w.told ∙ f)), size-most (clear_with clear n), size-most (set_with set n)))

-- a turn of the loop by the code's ways from the node: none, a write to R7, a node, a node and a target
pub record Turn (read : ℕ → ℕ) (node : Node) (ways : Ways) : Type 0 where
  pub nodes : nodes_of ways ≡ successors read node
  pub writes : is_write ways ≡ writes_at read node

module _ {read : ℕ → ℕ} {clear₀ set₀ clear set writers stack : List ℕ} {depth₀ depth : ℕ} {node : Node} {ways : Ways}
    (k : Following read clear₀ set₀ depth₀ clear set writers stack depth node) (e : Turn read node ways) where
  -- it leads nowhere
  nowhere : nodes_of ways ≡ [] → (x : Node) → x ∈ successors read node → marked clear set x ≡ true
  nowhere q x m = absurd (Memᴰ.not-nil (subst (λ (l : List Node). x ∈ l) (sym e.nodes ∙ q) m))

  pub turn_end : ways ≡ End → Followed read clear₀ set₀ depth₀ clear set writers stack depth
  turn_end q = follow-ends k (record { followed = nowhere (ap nodes_of q); noted = λ i. unnoted (sym e.writes ∙ ap is_write q) i })

  pub turn-write : {writers' : List ℕ} → ways ≡ Writes → writers' ≡ inserted writers node.address → Followed read clear₀ set₀ depth₀ clear set writers' stack depth
  turn-write q p =
      let w = k.work in
      let h = marked-within clear set node w.clear_buffer.long w.set_buffer.long k.here_marked in
      rw p
      (follow-ends (follow-notes k (sym e.writes ∙ ap is_write q))
      (record { followed = nowhere (ap nodes_of q); noted = λ i. inserted_same writers node.address (omega (arith, h, w.writers_long)) }))

  pub leads-one : {n : Node} → ways ≡ One n → Leading read clear₀ set₀ depth₀ (size_of clear) clear set writers stack depth node n
  leads-one {n} q =
      let one : successors read node ≡ n ∷ [] = sym e.nodes ∙ ap nodes_of q in
      record {
        stands = k;
        quiet = sym e.writes ∙ ap is_write q;
        leads = rw one (Memᴰ.head refl);
        others = λ x m. inl (Memᴰ.eq_of_singleton (subst (λ (l : List Node). x ∈ l) one m));
        held = omega arith;
      }

  pub leads-two :
      {n : Node} {t : ℕ} {clear₁ stack₁ : List ℕ} {depth₁ : ℕ} → ways ≡ Two n t → Pushes clear clear₁ stack stack₁ depth depth₁ t →
      Leading read clear₀ set₀ depth₀ (size_of clear) clear₁ set writers stack₁ depth₁ node n
  leads-two {n} {t} {clear₁} q p =
      let two : successors read node ≡ n ∷ clear_at t ∷ [] = sym e.nodes ∙ ap nodes_of q in
      let w = k.work in
      record {
        stands = follow-push k p (rw two (Memᴰ.tail (Memᴰ.head refl)));
        quiet = sym e.writes ∙ ap is_write q;
        leads = rw two (Memᴰ.head refl);
        others =
            λ x m.
            ⊎_elim (λ i. inl i) (λ i. inr (ap (marked clear₁ set) (Memᴰ.eq_of_singleton i) ∙ push-self clear set p w.clear_buffer.long w.set_buffer.long))
            (Memᴰ.cases_cons (subst (λ (l : List Node). x ∈ l) two m));
        held = push-held clear set p w.clear_buffer.long w.set_buffer.long;
      }

-- an element by its place, and the place of an element
at-∈ : (l : List ℕ) (i : ℕ) → i < length l → get_or l i 0 ∈ l
at-∈ [] i h = absurd (omega arith)
at-∈ (x ∷ l) zero h = Memᴰ.head refl
at-∈ (x ∷ l) (suc i) h = Memᴰ.tail (at-∈ l i (le_of_suc-le-suc h))

∈-at : {x : ℕ} {l : List ℕ} → x ∈ l → (i : ℕ) × (i < length l) × (get_or l i 0 ≡ x)
∈-at (Memᴰ.head e) = (zero, zero-lt-suc _, sym e)
∈-at (Memᴰ.tail m) = let w = ∈-at m in (suc w.0, suc-le-suc w.1, w.2)

-- the exploration after i entries: nothing but reached nodes is marked, and the entries up to there are
pub record Explored (read : ℕ → ℕ) (entries : List ℕ) (i : ℕ) (clear set writers stack : List ℕ) (depth : ℕ) : Type 0 where
  pub work : Exploring read Idle clear set writers stack depth
  pub led : (n : Node) → marked clear set n ≡ true → Reached (successors read) entries n
  pub begun : (j : ℕ) → j < i → marked clear set (clear_at (get_or entries j 0)) ≡ true

none-marked : (n : Node) (d : Bool) → cond d (contains (replicate 1024 0) n.address) (contains (replicate 1024 0) n.address) ≡ true → ⊥
none-marked n true h = unnoted (empty-has-none 1024 n.address) h
none-marked n false h = unnoted (empty-has-none 1024 n.address) h

pub explored-none : {read : ℕ → ℕ} {entries stack : List ℕ} → length stack ≡ 65536 → Explored read entries 0 (replicate 1024 0) (replicate 1024 0) (replicate 1024 0) stack 0
explored-none l =
    record {
      work =
          record {
            clear_buffer = empty-buffer;
            set_buffer = empty-buffer;
            writers_long = empty-buffer.long;
            stack_long = l;
            room = omega arith;
            stacked = λ n w. absurd (omega (arith, w.1));
            closed = λ n h. absurd (none-marked n n.double h);
            sound = λ a h. unnoted (empty-has-none 1024 a) h;
          };
      led = λ n h. absurd (none-marked n n.double h);
      begun = λ j h. absurd (omega arith);
    }

module _ {read : ℕ → ℕ} {entries clear set writers stack : List ℕ} {i depth : ℕ} (k : Explored read entries i clear set writers stack depth) where
  -- one entry more
  pub explored-entry :
      {clear' stack' : List ℕ} {depth' : ℕ} → i < length entries → Pushes clear clear' stack stack' depth depth' (get_or entries i 0) →
      Explored read entries (i + 1) clear' set writers stack' depth'
  explored-entry {clear'} h w =
      record {
        work = push-work k.work w;
        led =
            λ n q.
            ⊎_elim
            (λ e. record { entry = get_or entries i 0; listed = at-∈ entries i h; path = subst (PathTo (successors read) (clear_at (get_or entries i 0))) (sym e) here })
            (λ p. k.led n p)
            (push-only clear set w n q);
        begun =
            below_more (λ j. marked clear' set (clear_at (get_or entries j 0)) ≡ true) i (λ j p. push_kept clear set w (clear_at (get_or entries j 0)) (k.begun j p))
            (push-self clear set w k.work.clear_buffer.long k.work.set_buffer.long);
      }

  -- one path more is followed
  pub explored-path :
      {clear' set' writers' stack' : List ℕ} {depth' : ℕ} → Exploring read Idle clear' set' writers' stack' depth' →
      Grown (successors read) clear set clear' set' (depth - 1) depth' → Explored read entries i clear' set' writers' stack' depth'
  explored-path w g =
      record {
        work = w;
        led = λ n q. let m = g.led n q in let r = k.led m.0 m.1 in record { entry = r.entry; listed = r.listed; path = path_join r.path m.2 };
        begun = λ j h. g.kept (clear_at (get_or entries j 0)) (k.begun j h);
      }

  pub explored-less :
      {clear' set' : List ℕ} {depth' : ℕ} → 0 < depth → Grown (successors read) clear set clear' set' (depth - 1) depth' →
      131072 - (size_of clear' + size_of set') + depth' < 131072 - (size_of clear + size_of set) + depth
  explored-less {clear'} {set'} h g = omega (arith, g.paid, size-most clear', size-most set')

  -- nothing waits any more: the marked nodes are the reached ones
  pub explored-all : length entries ≤ i → depth ≡ 0 → ReachedSet (successors read) entries clear set
  explored-all l e =
      record {
        clear_buffer = k.work.clear_buffer;
        set_buffer = k.work.set_buffer;
        in_clear = λ a. (λ h. k.led (node_at a false) h, λ r. back (node_at a false) r);
        in_set = λ a. (λ h. k.led (node_at a true) h, λ r. back (node_at a true) r);
      }
    where
      back : (n : Node) → Reached (successors read) entries n → marked clear set n ≡ true
      back n r =
          let w = ∈-at r.listed in
          path-keeps (λ x. marked clear set x ≡ true) (subst (λ (a : ℕ). marked clear set (clear_at a) ≡ true) w.2 (k.begun w.0 (omega (arith, w.1))))
          (λ x y p m. (all_done k.work e x p).followed y m) r.path

  -- .. and the noted addresses those of the rows there that write R7
  pub explored-writers : depth ≡ 0 → (a : ℕ) → contains writers a ≡ is_writer read clear set a
  explored-writers e a =
      same_bool (contains writers a) (is_writer read clear set a) (λ h. let w = k.work.sound a h in writer-is read clear set a w.0 w.1 w.2)
      (λ h. let w = is-writer read clear set a h in (all_done k.work e (node_at a w.0) w.1).noted w.2)
