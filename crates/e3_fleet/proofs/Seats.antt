-- Nodes take their disks from the front, and give them back there.
use Rattle.std.proofs.Common.{◌≢◌, ◌==◌, Bool, true, false, Option, eqb-true, eq-eqb, ◌≡◌, ◌⊎◌, inl, inr, ◌+◌, ◌++◌, ◌∷◌, [], ℕ, zero, suc, List, length, Some, refl, sym, ap, subst, ◌∙◌, append_assoc, arith}
use Rattle.std.specs.Prelude.{slice_get, remove}
use Rattle.e3_disk.specs.Memory.{blank_state, state_of}
use Rattle.e3_disk.specs.Meaning.{Meaning}
use Rattle.e3_disk.specs.declared.memory.MemDisk.{MemDisk}
use Rattle.e3_fleet.specs.MemoryDisks.{AreMade, fails_at}
use Rattle.e3_world.proofs.Turns.{true_not_false}
use Rattle.e3_fleet.specs.Fleets.{AreSeated, Seated, disks_of}
use Rattle.e3_fleet.specs.Over.{AreBlank, IsFresh}
use Rattle.e3_fleet.proofs.Rooms.{rooms_empty}
use Rattle.e3_node.specs.NodeStands.{NodeStands}
use Rattle.e3_node.specs.NodeView.{NodeView, disk_of}
use Rattle.e3_types.specs.declared.scenarios.Scenario.{Scenario}

-- a place of a list with one more at its end
get_last : {X : Type 0} (xs : List X) (x y : X) (i : ℕ) → slice_get (xs ++ x ∷ []) i ≡ Some y →
    (slice_get xs i ≡ Some y) ⊎ ((i ≡ length xs) × (x ≡ y))
get_last [] x y zero is = inr (refl, cc)
get_last [] x y (suc i) is = absurd cc
get_last (z ∷ xs) x y zero is = inl is
get_last (z ∷ xs) x y (suc i) is = by (get_last xs x y i is)
  where
    by : (slice_get xs i ≡ Some y) ⊎ ((i ≡ length xs) × (x ≡ y)) → (slice_get (z ∷ xs) (suc i) ≡ Some y) ⊎ ((suc i ≡ length (z ∷ xs)) × (x ≡ y))
    by (inl k) = inl k
    by (inr k) = inr (ap suc k.0, k.1)

-- one more node is seated
pub seat_more : {D : Type 0} (meaning : Meaning D) (sc : Scenario) (nodes : List (NodeView D)) (n : NodeView D) →
    AreSeated meaning sc [] nodes → n.site ≡ length nodes + 1 → NodeStands meaning sc [] n →
    AreSeated meaning sc [] (nodes ++ n ∷ [])
seat_more {D} meaning sc nodes n seated site stands at node there = by (get_last nodes n node at there)
  where
    by : (slice_get nodes at ≡ Some node) ⊎ ((at ≡ length nodes) × (n ≡ node)) → Seated meaning sc [] at node
    by (inl k) = seated at node k
    by (inr k) = subst (λ (m : NodeView D). Seated meaning sc [] at m) k.1 (record {
      site = let place = k.0 in omega (arith, site, place);
      stands = stands;
      rooms = rooms_empty sc (suc at) (meaning.meters (disk_of n.state)).capacity;
    })

-- the disks behind the first are blank too
pub rest_blank : {D : Type 0} (meaning : Meaning D) (disks : List D) →
    AreBlank meaning disks → AreBlank meaning (remove disks 0)
rest_blank meaning [] blank at d there = blank at d there
rest_blank meaning (x ∷ disks) blank at d there = blank (suc at) d there

-- the first of a list, and what is behind it
pub first_of : {X : Type 0} (xs : List X) (x : X) → slice_get xs 0 ≡ Some x → xs ≡ x ∷ remove xs 0
first_of [] x is = absurd cc
first_of (y ∷ xs) x is = let same : y ≡ x = cc in ap (λ z. z ∷ xs) same

disks_more : {D : Type 0} (nodes : List (NodeView D)) (n : NodeView D) → disks_of (nodes ++ n ∷ []) ≡ disks_of nodes ++ disk_of n.state ∷ []
disks_more [] n = refl
disks_more (m ∷ nodes) n = ap (λ ds. disk_of m.state ∷ ds) (disks_more nodes n)

-- one disk goes from the front of the others to the end of those that are taken
pub take_first : {D : Type 0} (nodes : List (NodeView D)) (n : NodeView D) (disks : List D) (d : D) → slice_get disks 0 ≡ Some d → disk_of n.state ≡ d →
    disks_of (nodes ++ n ∷ []) ++ remove disks 0 ≡ disks_of nodes ++ disks
take_first {D} nodes n disks d first same =
    ap (λ (ds : List D). ds ++ remove disks 0) (disks_more nodes n ∙ ap (λ (x : D). disks_of nodes ++ x ∷ []) same)
    ∙ append_assoc (disks_of nodes) (d ∷ []) (remove disks 0)
    ∙ ap (λ (ds : List D). disks_of nodes ++ ds) (sym (first_of disks d first))

-- and back
pub give_back : {D : Type 0} (nodes rest : List (NodeView D)) (n : NodeView D) (disks more : List D) (d : D) → nodes ≡ rest ++ n ∷ [] → d ≡ disk_of n.state →
    more ≡ d ∷ disks → disks_of rest ++ more ≡ disks_of nodes ++ disks
give_back {D} nodes rest n disks more d last same is =
    ap (λ (ds : List D). disks_of rest ++ ds) (is ∙ ap (λ (x : D). x ∷ disks) same)
    ∙ sym (append_assoc (disks_of rest) (disk_of n.state ∷ []) disks)
    ∙ ap (λ (ds : List D). ds ++ disks) (sym (disks_more rest n))
    ∙ ap (λ (ns : List (NodeView D)). disks_of ns ++ disks) (sym last)

-- one more blank disk
pub blank_more : {D : Type 0} (meaning : Meaning D) (disks : List D) (d : D) →
    AreBlank meaning disks → IsFresh meaning d → AreBlank meaning (disks ++ d ∷ [])
blank_more {D} meaning disks d blank fresh at disk there = by (get_last disks d disk at there)
  where
    by : (slice_get disks at ≡ Some disk) ⊎ ((at ≡ length disks) × (d ≡ disk)) → IsFresh meaning disk
    by (inl k) = blank at disk k
    by (inr k) = subst (IsFresh meaning) k.1 fresh

-- the calls that fail of the next disk in memory
pub next_fails : (site the_one : ℕ) (fails listed : List ℕ) (now was : Option (List ℕ)) → (was ≡ Some fails ⊎ (site ≢ the_one)) →
    ((some : List ℕ) → site ≡ the_one → was ≡ Some some → listed ≡ some) → (site ≢ the_one → (listed ≡ []) × (now ≡ was)) → listed ≡ fails_at the_one fails site
next_fails site the_one fails listed now was some its other = by (site == the_one) refl some
  where
    by : (b : Bool) → (site == the_one) ≡ b → (was ≡ Some fails ⊎ (site ≢ the_one)) → listed ≡ fails_at the_one fails site
    by true is (inl there) = its fails (eqb-true site the_one is) there ∙ (let same : fails_at the_one fails site ≡ fails = rw is refl in sym same)
    by true is (inr apart) = absurd (apart (eqb-true site the_one is))
    by false is some = (other (λ e. true_not_false (sym (eq-eqb site the_one e) ∙ is))).0 ∙ (let same : fails_at the_one fails site ≡ [] = rw is refl in sym same)

-- one more disk in memory
pub made_more : (capacity the_one at : ℕ) (fails listed : List ℕ) (disks : List MemDisk) (d : MemDisk) → AreMade capacity the_one fails disks → length disks ≡ at →
    state_of d ≡ blank_state capacity listed → listed ≡ fails_at the_one fails (suc at) → AreMade capacity the_one fails (disks ++ d ∷ [])
made_more capacity the_one at fails listed disks d made number state is k disk there = by (get_last disks d disk k there)
  where
    by : (slice_get disks k ≡ Some disk) ⊎ ((k ≡ length disks) × (d ≡ disk)) → state_of disk ≡ blank_state capacity (fails_at the_one fails (suc k))
    by (inl was) = made k disk was
    by (inr last) = subst (λ (x : MemDisk). state_of x ≡ blank_state capacity (fails_at the_one fails (suc k))) last.1
        (state ∙ ap (blank_state capacity) (is ∙ ap (λ n. fails_at the_one fails (suc n)) (sym (last.0 ∙ number))))
