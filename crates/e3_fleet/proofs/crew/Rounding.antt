-- A round of all workers, from the dealing of their passes to the gathering.
use Rattle.std.proofs.Common.{◌≡◌, ◌+◌, ◌<◌, ◌≤◌, ◌∷◌, [], ℕ, zero, suc, false, List, length, refl, sym, ap, subst, ◌∙◌, arith}
use Rattle.std.specs.Prelude.{slice_index_or}
use Rattle.std.specs.List.{list_any}
use Rattle.atomic_table.specs.Seated.{TableId}
use Rattle.e3_fleet.specs.crew.Crews.{HasGoneOn, IsCrew}
use Rattle.e3_fleet.specs.crew.Turns.{WentOn}
use Rattle.e3_fleet.specs.crew.Workers.{AddedByOthers, HasWorked, IsDealt, KeepsItsOwn, seen_of}
use Rattle.e3_fleet.specs.declared.crew.worker.Worker.{Worker}
use Rattle.e3_fleet.proofs.crew.Growing.{lines_meanwhile, restless_on}
use Rattle.e3_fleet.proofs.crew.Turning.{meanwhile_foreign, worked_behind, worked_on}
use Rattle.e3_disk.specs.Meaning.{Meaning}
use Rattle.e3_laws.specs.local.Others.{AreOthers}
use Rattle.e3_node.specs.Claims.{NodesKeptByOthers}
use Rattle.e3_node.specs.NodeView.{NodeView, disk_of}
use Rattle.e3_node.specs.Turns.{Meanwhile, history_seen, scenario_seen}
use Rattle.e3_play.specs.Settled.{StaysInStep}
use Rattle.e3_turn.specs.Passes.{IsIdle, Owns, last_of, seen_by}
use Rattle.e3_types.specs.declared.entries.Entry.{Entry}
use Rattle.e3_types.specs.declared.scenarios.Scenario.{Scenario}
use Rattle.e3_wire.specs.Claims.{APass}
use Rattle.e3_wire.specs.declared.marks.Mark.{Mark}
use Rattle.e3_wire.specs.Marks.{AreForeign, last_owner, most_of, note_of, nothing, scenario_of}
use Rattle.e3_wire.specs.Wires.{IsPlayed}
use Rattle.e3_wire.proofs.Foreign.{notes_stay}
use Rattle.e3_wire.proofs.Notes.{scenario_stays}
use Rattle.e3_world.specs.Packets.{is_calm, is_line, present_items}

no_lines : (site : ℕ) (more : List Entry) → AreOthers site more → list_any is_line more ≡ false
no_lines site [] others = refl
no_lines site (e ∷ more) others = rw others.1 (no_lines site more others.2)

pub stays_in_step : (site : ℕ) (h now : List Entry) → Meanwhile site h now → StaysInStep h now
stays_in_step site h now m = record { more = m.others; entered = m.is; no_line = no_lines site m.others m.of_others }

module _ {D : Type 0} (meaning : Meaning D) (law : NodesKeptByOthers meaning) where
  -- what a worker came to, by the marks that are gathered
  pub gathered : (at : ℕ) (before marks all : List Mark) (old new : NodeView D) → new.site ≡ at + 1 → HasWorked meaning before old marks new →
      AddedByOthers (at + 1) marks all → IsPlayed all → HasWorked meaning before old all new
  gathered at before marks all old new site worked added played =
      let P : ℕ → Type 0 = λ s. AreForeign s added.0 in
      worked_on meaning before marks all old new new worked
      (worked_behind meaning law marks added.0 all new worked.knows (subst P (sym site) added.2) played added.1)

  pub record Round (wire : TableId) (p q : APass) (olds dealts turned news : List (Worker D)) : Type 0 where
    pub was : IsCrew meaning wire p olds
    pub dealt_count : length dealts ≡ length olds
    pub turned_count : length turned ≡ length olds
    pub count : length news ≡ length olds
    pub dealt : (i : ℕ) (d : Worker D) → i < length olds → IsDealt wire (seen_by p) (slice_index_or olds i d) (slice_index_or dealts i d)
    pub worked : (i : ℕ) (d : Worker D) → i < length olds → HasWorked meaning (seen_of (slice_index_or dealts i d)) (slice_index_or dealts i d).node
        (seen_of (slice_index_or turned i d)) (slice_index_or turned i d).node
    pub same : (i : ℕ) (d : Worker D) → i < length olds → KeepsItsOwn (slice_index_or turned i d) (slice_index_or news i d)
    pub each : (i : ℕ) (d : Worker D) → i < length olds → AddedByOthers (i + 1) (seen_of (slice_index_or turned i d)) (seen_by q)
    pub driver : AddedByOthers 0 (seen_by p) (seen_by q)
    pub idle : IsIdle wire q
    pub owns : (o : ℕ) → o ≤ length olds → Owns q o
    pub last : last_of q ≡ last_of p
    pub played : IsPlayed (seen_by q)

  module _ (wire : TableId) (p q : APass) (olds dealts turned news : List (Worker D)) (r : Round wire p q olds dealts turned news) where
    -- each worker, from the first marks to the last
    pub each_worked : (i : ℕ) (d : Worker D) → i < length olds →
        HasWorked meaning (seen_by p) (slice_index_or olds i d).node (seen_by q) (slice_index_or news i d).node
    each_worked i d low =
        let dealt = r.dealt i d low in
        let worked = r.worked i d low in
        let site : (slice_index_or turned i d).node.site ≡ i + 1 = worked.site ∙ ap (λ (n : NodeView D). n.site) dealt.node ∙ (r.was.each i d low).site in
        let all = gathered i (seen_of (slice_index_or dealts i d)) (seen_of (slice_index_or turned i d)) (seen_by q) (slice_index_or dealts i d).node (slice_index_or turned i d).node
        site worked (r.each i d low) r.played in
        let P : List Mark → Type 0 = λ l. HasWorked meaning l (slice_index_or olds i d).node (seen_by q) (slice_index_or news i d).node in
        let Q : NodeView D → Type 0 = λ n. HasWorked meaning (seen_of (slice_index_or dealts i d)) n (seen_by q) (slice_index_or news i d).node in
        let R : NodeView D → Type 0 = λ n. HasWorked meaning (seen_of (slice_index_or dealts i d)) (slice_index_or dealts i d).node (seen_by q) n in
        subst P dealt.seen (subst Q dealt.node (subst R (sym (r.same i d low).node) all))

    pub site_of : (i : ℕ) (d : Worker D) → i < length olds → (slice_index_or news i d).node.site ≡ i + 1
    site_of i d low = (each_worked i d low).site ∙ (r.was.each i d low).site

    since : Meanwhile 0 (history_seen p) (history_seen q)
    since = meanwhile_foreign 0 (seen_by p) r.driver.0 (seen_by q) r.played r.driver.2 r.driver.1

    pub same_scenario : scenario_seen q ≡ scenario_seen p
    same_scenario = ap scenario_of r.driver.1 ∙ (scenario_stays (seen_by p) r.driver.0 r.was.played).0

    same_last : last_owner (seen_by q) ≡ length olds
    same_last = ap (λ (sc : Scenario). length sc.weights) same_scenario ∙ r.was.count

    none_for : (o : ℕ) → o ≤ length olds → note_of o (seen_by q) ≡ nothing
    none_for zero low = ap (λ (l : List Mark). note_of 0 l) r.driver.1 ∙ notes_stay 0 (seen_by p) r.driver.0 r.driver.2 ∙ r.was.none 0 (omega arith)
    none_for (suc k) low = some news refl
      where
        less : k < length olds
        less = omega (arith, low)

        some : (ws : List (Worker D)) → ws ≡ news → note_of (suc k) (seen_by q) ≡ nothing
        some [] is = absurd (let none : length news ≡ 0 = ap length (sym is) in let c = r.count in omega (arith, none, c, less))
        some (d ∷ ws) is =
            let here : (slice_index_or news k d).node.site ≡ k + 1 = site_of k d less in
            let same : k + 1 ≡ suc k = omega arith in
            let P : ℕ → Type 0 = λ s. note_of s (seen_by q) ≡ nothing in
            subst P (here ∙ same) (each_worked k d less).knows.promised

    pub crew_again : IsCrew meaning wire q news
    crew_again = record {
      idle = r.idle;
      all = λ o low. r.owns o (let a = r.last in let b = r.was.last in omega (arith, a, b, low));
      last = r.last ∙ r.was.last ∙ sym r.count;
      count = same_last ∙ sym r.count;
      played = r.played;
      restless = (let P : Scenario → Type 0 = λ k. is_calm (present_items k (history_seen q)) ≡ false in
          subst P (sym same_scenario) (restless_on (scenario_seen p) (history_seen p) (history_seen q) (lines_meanwhile 0 (history_seen p) (history_seen q) since) r.was.restless));
      none = λ o low. none_for o (let s = same_last in omega (arith, s, low));
      each = λ i d low. (let less : i < length olds = (let c = r.count in omega (arith, c, low)) in record {
        site = site_of i d less;
        stands = (each_worked i d less).knows.stands;
      });
    }

    pub gone_on : HasGoneOn meaning.meters (seen_by p) olds (seen_by q) news
    gone_on = record {
      scenario = same_scenario;
      most = ap most_of r.driver.1 ∙ (scenario_stays (seen_by p) r.driver.0 r.was.played).1;
      count = r.count;
      grown = stays_in_step 0 (history_seen p) (history_seen q) since;
      went = λ i d low. (let P : ℕ → Type 0 = λ s. WentOn (scenario_seen p) s (history_seen p) (meaning.meters (disk_of (slice_index_or olds i d).node.state)) (history_seen q)
          (meaning.meters (disk_of (slice_index_or news i d).node.state)) in subst P (r.was.each i d low).site (each_worked i d low).went);
    }
