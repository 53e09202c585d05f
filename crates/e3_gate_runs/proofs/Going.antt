-- Two nodes go on.
use Rattle.std.proofs.Common.{◌≡◌, ◌≢◌, ◌≤◌, ◌++◌, ◌∷◌, [], ℕ, List, refl, sym, ap, subst, ◌∙◌, arith, eq-eqb}
use Rattle.std.proofs.lemmas.List.Elements.{All-cons, All-nil}
use Rattle.std.specs.Prelude.{Result, Ok, Err, OnOk}
use Rattle.e3_disk.specs.Meaning.{Meaning}
use Rattle.e3_fleet.proofs.Driven.{opened}
use Rattle.e3_gate_runs.specs.TwoNodes.{AreTwo, HaveGoneOn}
use Rattle.e3_node.specs.Claims.{NodesKept}
use Rattle.e3_node.specs.NodeStands.{NodeStands}
use Rattle.e3_node.specs.NodeView.{NodeView}
use Rattle.e3_node.specs.SharedStands.{SharedStands}
use Rattle.e3_node.proofs.Sharing.{under}
use Rattle.e3_types.specs.declared.entries.Entry.{Entry}
use Rattle.e3_types.specs.declared.scenarios.Scenario.{Scenario}
use Rattle.e3_wire.specs.Claims.{HasOwner, HaveGrown}
use Rattle.e3_wire.specs.declared.marks.Mark.{Mark}
use Rattle.e3_wire.specs.declared.marks.Mark.TheVariants as mark
use Rattle.e3_wire.specs.Marks.{NothingIsPromised, entries_of, last_owner, scenario_of}
use Rattle.e3_wire.specs.Wires.{IsPlayed}
use Rattle.e3_wire.proofs.Foreign.{entries_append}
use Rattle.e3_wire.proofs.Notes.{scenario_stays}
use Rattle.e3_wire.proofs.Spending.{entries_promise_nothing, growth_adds_up}

-- what holds where a call went well
pub ok_of : {E : Type 0} (answer : Result (Unit {0}) E) (u : Unit {0}) (X : Type 0) → answer ≡ Ok u → OnOk answer X → X
ok_of (Ok v) u X is given = given
ok_of (Err e) u X is given = absurd cc

module _ {D : Type 0} (meaning : Meaning D) where
  abbrev Two : List Mark → NodeView D → NodeView D → Type 0
  Two shared node other = AreTwo meaning shared node other

  abbrev On : List Mark → List Mark → NodeView D → NodeView D → Type 0
  On before now node other = HaveGoneOn meaning before now node other

  pub on_more : (a b c : List Mark) (u v x y : NodeView D) → IsPlayed a → On a b u v → On b c x y → On a c x y
  on_more a b c u v x y played first second = record { two = second.two; grown = growth_adds_up a b c played first.grown second.grown }

  -- one is as good as the other
  pub turned : (marks : List Mark) (x y : NodeView D) → Two marks x y → Two marks y x
  turned marks x y two = record { stands = two.stands; node = two.other; other = two.node; apart = λ is. two.apart (sym is) }

  pub turned_on : (a b : List Mark) (x y : NodeView D) → On a b x y → On a b y x
  turned_on a b x y on = record { two = turned b x y on.two; grown = on.grown }

  -- the other node stands behind an entry of another owner
  kept : NodesKept meaning → (a b : List Mark) (e : Entry) (y : NodeView D) → NodeStands meaning (scenario_of a) (entries_of a) y → e.owner ≢ y.site →
      scenario_of b ≡ scenario_of a → entries_of b ≡ entries_of a ++ e ∷ [] → NodeStands meaning (scenario_of b) (entries_of b) y
  kept law a b e y stands far same entered =
      let P : Scenario → Type 0 = λ k. NodeStands meaning k (entries_of b) y in
      let Q : List Entry → Type 0 = λ l. NodeStands meaning (scenario_of a) l y in
      subst P (sym same) (subst Q (sym entered) (law (scenario_of a) (entries_of a) e y stands far))

  -- a node entered something of its own
  pub entered_own : NodesKept meaning → (a b : List Mark) (e : Entry) (x y new : NodeView D) → Two a x y → e.owner ≡ x.site → SharedStands b → HaveGrown a b →
      scenario_of b ≡ scenario_of a → entries_of b ≡ entries_of a ++ e ∷ [] → NodeStands meaning (scenario_of b) (entries_of b) new → new.site ≡ x.site → On a b new y
  entered_own law a b e x y new two own stands grown same entered node site = record {
    two = record {
      stands = stands;
      node = node;
      other = kept law a b e y two.other (λ is. two.apart (sym own ∙ is)) same entered;
      apart = λ is. two.apart (sym site ∙ is);
    };
    grown = grown;
  }

  -- the driver entered something
  pub entered_line : NodesKept meaning → (a b : List Mark) (e : Entry) (x y : NodeView D) → Two a x y → e.owner ≡ 0 → IsPlayed b →
      b ≡ a ++ mark.Entered e ∷ [] → On a b x y
  entered_line law a b e x y two driver played is = record {
    two = record {
      stands = record {
        played = played;
        within = under b played;
        none = (let P : List Mark → Type 0 = λ l. NothingIsPromised l in subst P (sym is) (entries_promise_nothing a e two.stands.played two.stands.none));
      };
      node = kept law a b e x two.node (λ own. none x.site two.node.some (sym driver ∙ own)) same entered;
      other = kept law a b e y two.other (λ own. none y.site two.other.some (sym driver ∙ own)) same entered;
      apart = two.apart;
    };
    grown = (
      mark.Entered e ∷ [],
      is,
      All-cons (HasOwner (last_owner a)) (mark.Entered e) [] (0, omega arith, rw (eq-eqb e.owner 0 driver) refl) (All-nil (HasOwner (last_owner a))),
    );
  }
    where
      none : (site : ℕ) → 1 ≤ site → 0 ≡ site → ⊥
      none site some own = absurd (omega (arith, some, own))

      same : scenario_of b ≡ scenario_of a
      same = ap (λ (l : List Mark). scenario_of l) is ∙ (scenario_stays a (mark.Entered e ∷ []) two.stands.played).0

      entered : entries_of b ≡ entries_of a ++ e ∷ []
      entered = ap (λ (l : List Mark). entries_of l) is ∙ entries_append a (mark.Entered e ∷ [])

  -- before anything happened
  pub two_at_first : (sc : Scenario) (most : ℕ) (marks : List Mark) (x y : NodeView D) → marks ≡ mark.Start sc most ∷ [] → IsPlayed marks →
      NodeStands meaning sc [] x → NodeStands meaning sc [] y → x.site ≢ y.site → Two marks x y
  two_at_first sc most marks x y is played first second apart =
      let P : List Mark → Type 0 = λ l. NodeStands meaning (scenario_of l) (entries_of l) x in
      let Q : List Mark → Type 0 = λ l. NodeStands meaning (scenario_of l) (entries_of l) y in
      record {
        stands = opened sc most marks is played;
        node = subst P (sym is) first;
        other = subst Q (sym is) second;
        apart = apart;
      }
