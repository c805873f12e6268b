-- The second mode with the reached set: what it names of members it names of the addresses to which a path leads.
use Prim.Native.Nat.{ℕ, suc, ◌-◌, ◌^◌}
use mathlib.Core.Path.{◌≡◌, refl, sym, ap, ◌∙◌, subst}
use mathlib.Core.Bool.{true, false, true≢false}
use mathlib.Core.List.Memᴰ
use mathlib.Core.List.{List, [], ◌∷◌}
use mathlib.Core.Logic.{⊎_elim}
use native.Mathlib.Omega.{arith}
use lib.Dec.{lit<}
use lib.ListN.{length-replicate}
use Rattle.refusal.specs.Report.{Report, refused, answered, UnlessRefused}
use Rattle.word.specs.Word.{wrap_add, wrap_sub}
use Rattle.memory.specs.Memory.{peek_of}
use Rattle.memory.specs.Map.{holds, cell_at, bad_map}
use Rattle.memory.specs.Bus.{read_of, admission_of}
use Rattle.decode.specs.Fields.{branch_target}
use Rattle.decode.specs.Decode.{control_instruction, status_instruction, low_instruction, instruction_of, is_unspecified, decode_at}
use Rattle.decode.specs.Rows.{interruptible_entry, plain_entry, control_entry, register_entry, branch_cycles, branch_entry, memory_words, store_entry}
use Rattle.meter.specs.Answer.{Named}
use Rattle.meter.specs.Walk.{limit_of, start_at, place_after, row_turn, turn_at, walk_by, walk_on, walk_from}
use Rattle.meter.specs.Scan.{longer_than, lower_than, longest_by, lowest_by}
use Rattle.meter.specs.Meter.{answer_from, wait_of, named_of, scan_admission, region_of, region_reached_of}
use Rattle.meter.specs.Laws.{NamedIs}
use Rattle.meter.proofs.ScanLaws.{same-starts}
use Rattle.meter.proofs.RegionLaws.{names-its-members, second_mode}
use Rattle.bitset.specs.Bits.{contains, inserted}
use Rattle.bitset.proofs.SetLaws.{member-laws, inserted-buffer, inserted_same, inserted-only, empty-has-none, empty-buffer}
use Rattle.reach.specs.declared.Node.{Node}
use Rattle.reach.specs.Ways.{node_at, clear_at, branch_ways, successors}
use Rattle.reach.specs.Paths.{◌∈◌, here, Reached}
use Rattle.reach.specs.Reach.{ReachedSet}
use Rattle.reach.proofs.ExploreLaws.{path-keeps}
use Rattle.guarantees.specs.Reached.{ReachedClear, NamesReached, MetersReachedStarts, every_bit, AllBitsAsFirst, ReachedStarts, branch_and_data, only_zero, no_address, ReachedInstance}

meters-reached-starts : MetersReachedStarts
meters-reached-starts b entries clear set first last limit k =
    go (region_reached_of b first last limit clear set) (names-its-members b first last limit clear set) (second_mode.waits_answer b first last limit clear set)
  where
    go : (r : Report Named) → UnlessRefused (NamedIs (λ a. contains clear a ≡ true) (answer_from b limit) first (suc last)) r →
        UnlessRefused (λ n. (s : ℕ) → wait_of b s limit ≡ answered (answer_from b limit s)) r → UnlessRefused (NamesReached b entries first last limit) r
    go (refused n) p q = tt
    go (answered n) p q = record { named = same-starts (λ a. contains clear a ≡ true) (ReachedClear b entries) k.in_clear (answer_from b limit) first (suc last) n p; answers = q }

all-bits-as-first : AllBitsAsFirst
all-bits-as-first b first last limit set l h =
    second_mode.as_first b first last limit every_bit set (length-replicate {A = ℕ} 1024 (2 ^ 64 - 1)) h (λ a p q. member-laws.all 1024 a (omega arith))

pub reached-starts : ReachedStarts
reached-starts = record { meters = meters-reached-starts; as_first = all-bits-as-first }

-- the branch leads to itself
leads : successors (read_of branch_and_data) (clear_at 0) ≡ clear_at 0 ∷ []
unfolding successors branch_ways decode_at is_unspecified instruction_of read_of peek_of wrap_add wrap_sub branch_target branch_entry interruptible_entry
leads = refl

reached-zero : (n : Node) → Reached (successors (read_of branch_and_data)) (0 ∷ []) n → n ≡ clear_at 0
reached-zero n r =
    path-keeps (λ x. x ≡ clear_at 0) (ap clear_at (Memᴰ.eq_of_singleton r.listed))
    (λ x y e m. Memᴰ.eq_of_singleton (subst (λ (l : List Node). y ∈ l) (ap (successors (read_of branch_and_data)) e ∙ leads) m)) r.path

-- no address is in the empty set
nowhere : {A : Type 0} (a : ℕ) → contains no_address a ≡ true → A
nowhere a h = let z : true ≡ false = sym h ∙ empty-has-none 1024 a in absurd (true≢false z)

zero-reached : (a : ℕ) → a ≡ 0 → Reached (successors (read_of branch_and_data)) (0 ∷ []) (clear_at a)
zero-reached a e = rw e (record { entry = 0; listed = Memᴰ.head refl; path = here })

only_zero-is : ReachedSet (successors (read_of branch_and_data)) (0 ∷ []) only_zero no_address
only_zero-is =
    record {
      clear_buffer = inserted-buffer no_address 0 empty-buffer;
      set_buffer = empty-buffer;
      in_clear =
          λ a. (
            λ h. ⊎_elim (zero-reached a) (λ q. nowhere a q) (inserted-only no_address 0 a h),
            λ r. let e : a ≡ 0 = ap (λ (n : Node). n.address) (reached-zero (clear_at a) r) in rw e (inserted_same no_address 0 (lit< tt)),
          );
      in_set =
          λ a. (
            λ h. nowhere a h,
            λ r. let z : true ≡ false = ap (λ (n : Node). n.double) (reached-zero (node_at a true) r) in absurd (true≢false z),
          );
    }

pub reached-instance : ReachedInstance
unfolding contains inserted holds cell_at wrap_add peek_of read_of bad_map admission_of control_instruction status_instruction low_instruction instruction_of is_unspecified decode_at interruptible_entry plain_entry control_entry register_entry branch_cycles branch_entry memory_words store_entry limit_of start_at place_after row_turn turn_at walk_by walk_on walk_from longer_than lower_than longest_by lowest_by named_of scan_admission region_of region_reached_of
reached-instance = record { set = only_zero-is; first_mode = refl; second_mode = refl }
