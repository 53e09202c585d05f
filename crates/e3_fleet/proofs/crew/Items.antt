-- A round of items.
use Rattle.std.proofs.Common.{◌≡◌, ◌≢◌, ◌==◌, ◌+◌, ◌<◌, ◌≤◌, ◌++◌, ◌∷◌, [], ℕ, zero, suc, Bool, true, false, List, length, refl, sym, ap, subst, ◌∙◌, arith, Option, Some, None}
use Rattle.std.specs.Prelude.{Result, Ok, Err, OnOk, filter_map, slice_index_or}
use Rattle.std.specs.List.{list_any}
use Rattle.atomic_table.specs.Seated.{TableId}
use Rattle.e3_fleet.specs.crew.Crews.{AllEndedWell, IsCrew, OneWasRefused}
use Rattle.e3_fleet.specs.crew.Turns.{AreDone}
use Rattle.e3_fleet.specs.crew.Workers.{CanTakeItems, HasTakenItems, IsDealt, Knows, seen_of}
use Rattle.e3_fleet.specs.declared.crew.worker.Worker.{Worker}
use Rattle.e3_fleet.proofs.crew.Growing.{alike_meanwhile}
use Rattle.e3_fleet.proofs.crew.Places.{own_behind, own_in_all, used_stays}
use Rattle.e3_fleet.proofs.crew.Rounding.{Round, crew_again, gone_on, same_scenario}
use Rattle.e3_fleet.proofs.crew.Taking.{done_meanwhile}
use Rattle.e3_fleet.proofs.crew.Turning.{meanwhile_foreign}
use Rattle.e3_disk.specs.Meaning.{Meaning}
use Rattle.e3_laws.specs.local.Workers.{AtItems}
use Rattle.e3_laws.proofs.local.Due.{next_on}
use Rattle.e3_node.specs.Claims.{NodesKeptByOthers}
use Rattle.e3_node.specs.NodeView.{NodeView}
use Rattle.e3_node.specs.Places.{HasGivenNoneBack, OwnGiveNoneBack}
use Rattle.e3_node.proofs.Places.{own_foreign}
use Rattle.e3_node.specs.Turns.{Meanwhile, history_seen, scenario_seen}
use Rattle.e3_play.specs.Delivered.{IsFullBefore, IsItemDue}
use Rattle.e3_play.specs.Settled.{is_asking}
use Rattle.e3_play.specs.declared.sites.RunFault.{RunFault}
use Rattle.e3_play.specs.declared.sites.RunFault.TheVariants.{HistoryFull}
use Rattle.e3_play.proofs.DueItems.{item_full, up_within}
use Rattle.e3_play.proofs.SameSteps.{same_step}
use Rattle.e3_turn.specs.Passes.{seen_by}
use Rattle.e3_types.specs.declared.entries.Entry.{Entry}
use Rattle.e3_types.specs.declared.entries.Input.{Input}
use Rattle.e3_types.specs.declared.scenarios.Item.{Item}
use Rattle.e3_types.specs.declared.scenarios.Scenario.{Scenario}
use Rattle.e3_wire.specs.Claims.{APass, NothingPromised}
use Rattle.e3_wire.specs.declared.marks.Mark.{Mark}
use Rattle.e3_wire.specs.Marks.{NothingIsPromised, entries_of, last_owner, most_of, note_of, nothing, scenario_of, used_of}
use Rattle.e3_wire.specs.Wires.{IsPlayed}
use Rattle.e3_world.specs.Items.{input_of, inputs_at, inputs_to, is_delivery, is_up_at, taken_at, to_line}
use Rattle.e3_world.specs.Legal.{IsLegal, IsNextItem}
use Rattle.e3_world.specs.Packets.{lines, present_items}
use Rattle.e3_world.specs.Progress.{Delivering, Through}
use Rattle.e3_world.specs.declared.names.Addressed.{Addressed}
use Rattle.e3_world.proofs.Guards.{item_no, up_some}

-- what a step asks of a site has no delivery
items_bring_no_packets : (s : ℕ) (sc : Scenario) (h : List Entry) (items : List Item) → list_any is_delivery (inputs_to s (filter_map (input_of sc h) items)) ≡ false
items_bring_no_packets s sc h [] = refl
items_bring_no_packets s sc h (it ∷ items) = by (input_of sc h it) refl (items_bring_no_packets s sc h items)
  where
    at : (a : Addressed) (rest : List Addressed) (b : Bool) → (a.site == s) ≡ b → is_delivery a.input ≡ false → list_any is_delivery (inputs_to s rest) ≡ false →
        list_any is_delivery (inputs_to s (a ∷ rest)) ≡ false
    at a rest true here plain none = rw (here, plain) none
    at a rest false other plain none = rw other none

    by : (o : Option Addressed) → input_of sc h it ≡ o → list_any is_delivery (inputs_to s (filter_map (input_of sc h) items)) ≡ false →
        list_any is_delivery (inputs_to s (filter_map (input_of sc h) (it ∷ items))) ≡ false
    by None is rest = rw is rest
    by (Some a) is rest = rw is (at a (filter_map (input_of sc h) items) (a.site == s) refl (item_no sc h it a is) rest)

pub inputs_are_no_packets : (sc : Scenario) (h : List Entry) (s : ℕ) → list_any is_delivery (inputs_at sc h s) ≡ false
inputs_are_no_packets sc h s = items_bring_no_packets s sc (to_line h) (present_items sc (to_line h))

-- at the beginning of a step none is done
pub at_first : (sc : Scenario) (h : List Entry) (s : ℕ) (items : List Input) → items ≡ inputs_at sc h s → taken_at h s ≡ [] → AtItems sc h s items 0
at_first sc h s items is none = record {
  asked = sym is;
  turn = rw none refl;
  fresh = rw none refl;
}

-- a member of a list that has some
pub any : {A : Type 0} (xs : List A) → 0 < length xs → A
any [] low = absurd (omega (arith, low))
any (x ∷ xs) low = x

-- a history that is full where nothing is promised has as many entries as it may have
pub at_bound : NothingPromised → (all : List Mark) → IsPlayed all → NothingIsPromised all → most_of all ≤ used_of all →
    (length (entries_of all) ≤ most_of all) × (most_of all ≤ length (entries_of all))
at_bound nothing all now none full =
    let just : used_of all ≡ length (entries_of all) = nothing all none in
    let within = now.within in
    (omega (arith, just, within), omega (arith, just, full))

module _ {D : Type 0} (meaning : Meaning D) where
  -- what a worker knows once it has its pass
  pub knows_dealt : (wire : TableId) (p : APass) (olds : List (Worker D)) (after : Worker D) (i : ℕ) (d : Worker D) → IsCrew meaning wire p olds → i < length olds →
      IsDealt wire (seen_by p) (slice_index_or olds i d) after → Knows meaning (seen_of after) after.node
  knows_dealt wire p olds after i d crew low dealt =
      let rest = crew.each i d low in
      let P : List Mark → Type 0 = λ l. Knows meaning l after.node in
      let Q : NodeView D → Type 0 = λ n. Knows meaning (seen_by p) n in
      subst P (sym dealt.seen) (subst Q (sym dealt.node) (record {
        played = crew.played;
        restless = crew.restless;
        promised = (let S : ℕ → Type 0 = λ s. note_of s (seen_by p) ≡ nothing in
            subst S (sym rest.site) (crew.none (i + 1) (let c = crew.count in omega (arith, c, low))));
        stands = rest.stands;
      }))

  pub can_take : (wire : TableId) (p : APass) (olds : List (Worker D)) (after : Worker D) (i : ℕ) (d : Worker D) → IsCrew meaning wire p olds → i < length olds →
      IsDealt wire (seen_by p) (slice_index_or olds i d) after → (slice_index_or olds i d).items ≡ inputs_at (scenario_seen p) (history_seen p) (i + 1) →
      ((s : ℕ) → taken_at (history_seen p) s ≡ []) → CanTakeItems meaning wire after
  can_take wire p olds after i d crew low dealt items fresh =
      let site : after.node.site ≡ i + 1 = ap (λ (n : NodeView D). n.site) dealt.node ∙ (crew.each i d low).site in
      let mine : after.items ≡ inputs_at (scenario_seen p) (history_seen p) (i + 1) = dealt.items ∙ items in
      let P : List Mark → Type 0 = λ l. AreDone (scenario_of l) (entries_of l) after.node.site after.items 0 in
      let Q : ℕ → Type 0 = λ s. AreDone (scenario_seen p) (history_seen p) s after.items 0 in record {
        pass = dealt.pass;
        knows = knows_dealt wire p olds after i d crew low dealt;
        no_packets = rw mine (inputs_are_no_packets (scenario_seen p) (history_seen p) (i + 1));
        begun = subst P (sym dealt.seen) (subst Q (sym site) (λ up. at_first (scenario_seen p) (history_seen p) (i + 1) after.items mine (fresh (i + 1))));
      }

  module _ (law : NodesKeptByOthers meaning) (wire : TableId) (p q : APass) (olds dealts turned news : List (Worker D))
      (r : Round meaning law wire p q olds dealts turned news) (begun : lines (history_seen p) ≢ 0)
      (asks : is_asking (present_items (scenario_seen p) (history_seen p)) ≡ true)
      (items : (i : ℕ) (d : Worker D) → i < length olds → (slice_index_or olds i d).items ≡ inputs_at (scenario_seen p) (history_seen p) (i + 1))
      (took : (i : ℕ) (d : Worker D) → i < length olds → HasTakenItems meaning wire (slice_index_or dealts i d) (slice_index_or turned i d)) where
    abbrev sc : Scenario
    sc = scenario_seen p

    abbrev last : List Entry
    last = history_seen q

    legal : IsLegal sc last
    legal = let P : Scenario → Type 0 = λ k. IsLegal k last in subst P (same_scenario meaning law wire p q olds dealts turned news r) r.played.legal

    -- a worker's history is gathered with entries of others behind it
    meanwhile : (i : ℕ) (d : Worker D) → i < length olds → Meanwhile (i + 1) (entries_of (seen_of (slice_index_or turned i d))) last
    meanwhile i d low = meanwhile_foreign (i + 1) (seen_of (slice_index_or turned i d)) (r.each i d low).0 (seen_by q) r.played (r.each i d low).2 (r.each i d low).1

    site_dealt : (i : ℕ) (d : Worker D) → i < length olds → (slice_index_or dealts i d).node.site ≡ i + 1
    site_dealt i d low = ap (λ (n : NodeView D). n.site) (r.dealt i d low).node ∙ (r.was.each i d low).site

    -- the items of a site are done
    done_at : (i : ℕ) (d : Worker D) → i < length olds → (slice_index_or news i d).ended ≡ Ok tt →
        AreDone sc last (i + 1) (inputs_at sc (history_seen p) (i + 1)) (length (inputs_at sc (history_seen p) (i + 1)))
    done_at i d low well =
        let b = slice_index_or dealts i d in
        let a = slice_index_or turned i d in
        let mine : b.items ≡ inputs_at sc (history_seen p) (i + 1) = (r.dealt i d low).items ∙ items i d low in
        let ok : a.ended ≡ Ok tt = sym (r.same i d low).ended ∙ well in
        let P : Result (Unit {0}) RunFault → Type 0 = λ e. OnOk e (AreDone (scenario_of (seen_of b)) (entries_of (seen_of a)) b.node.site b.items (length b.items)) in
        let Q : List Mark → Type 0 = λ l. AreDone (scenario_of l) (entries_of (seen_of a)) b.node.site b.items (length b.items) in
        let R : ℕ → Type 0 = λ s. AreDone sc (entries_of (seen_of a)) s b.items (length b.items) in
        let S : List Input → Type 0 = λ l. AreDone sc (entries_of (seen_of a)) (i + 1) l (length l) in
        done_meanwhile sc (i + 1) (entries_of (seen_of a)) last (inputs_at sc (history_seen p) (i + 1)) (length (inputs_at sc (history_seen p) (i + 1))) r.was.played.given legal (meanwhile i d low)
        (subst S mine (subst R (site_dealt i d low) (subst Q (r.dealt i d low).seen (subst P ok (took i d low).done))))

    -- so all are, where none was refused
    pub all_through : AllEndedWell news → Through sc last
    all_through well zero up = absurd (let some = up_some sc last 0 legal up in omega (arith, some))
    all_through well (suc k) up =
        let within : suc k ≤ length sc.weights = up_within sc last (suc k) legal up in
        let low : k < length olds = (let c = r.was.count in omega (arith, c, within)) in
        let d : Worker D = any news (let c = r.count in omega (arith, c, low)) in
        let same : k + 1 ≡ suc k = omega arith in
        let P : ℕ → Type 0 = λ s. AreDone sc last s (inputs_at sc (history_seen p) s) (length (inputs_at sc (history_seen p) s)) in
        let at : AtItems sc last (suc k) (inputs_at sc (history_seen p) (suc k)) (length (inputs_at sc (history_seen p) (suc k))) =
        (subst P same (done_at k d low (well k d (let c = r.count in omega (arith, c, low))))) up in
        let asked : length (inputs_at sc last (suc k)) ≡ length (inputs_at sc (history_seen p) (suc k)) = ap length at.asked in
        let turn = at.turn in
        omega (arith, asked, turn)

    -- none of the sites gave a promised place back
    none_back : (o : ℕ) → o ≤ length olds → OwnGiveNoneBack o r.driver.0
    none_back zero low = own_foreign 0 r.driver.0 r.driver.2
    none_back (suc k) low =
        let less : k < length olds = omega (arith, low) in
        let d : Worker D = any news (let c = r.count in omega (arith, c, less)) in
        let b = slice_index_or dealts k d in
        let a = slice_index_or turned k d in
        let P : List Mark → Type 0 = λ l. HasGivenNoneBack (k + 1) l (seen_of a) in
        let Q : ℕ → Type 0 = λ s. HasGivenNoneBack s (seen_of b) (seen_of a) in
        let R : ℕ → Type 0 = λ s. OwnGiveNoneBack s r.driver.0 in
        let same : k + 1 ≡ suc k = omega arith in
        let after = r.each k d less in
        subst R same (own_in_all (k + 1) (seen_by p) (seen_of a) (seen_by q) r.driver.0 after.0
        (subst P (r.dealt k d less).seen (subst Q (site_dealt k d less) (took k d less).none_back)) after.1 after.2 r.driver.1)

    -- so a history that was full when a worker was refused is full at the end
    still_full : (i : ℕ) (d : Worker D) → i < length olds → most_of (seen_of (slice_index_or turned i d)) ≤ used_of (seen_of (slice_index_or turned i d)) →
        most_of (seen_by q) ≤ used_of (seen_by q)
    still_full i d low full =
        let b = slice_index_or dealts i d in
        let a = slice_index_or turned i d in
        let worked = (took i d low).worked in
        let after = r.each i d low in
        let back = (took i d low).none_back in
        let there : scenario_of (seen_of a) ≡ sc = worked.scenario ∙ ap scenario_of (r.dealt i d low).seen in
        let most : most_of (seen_of a) ≡ most_of (seen_by p) = worked.most ∙ ap most_of (r.dealt i d low).seen in
        let last_is : last_owner (seen_of a) ≡ length olds = ap (λ (k : Scenario). length k.weights) there ∙ r.was.count in
        let start : seen_of a ≡ seen_by p ++ back.0 = back.1 ∙ ap (λ (l : List Mark). l ++ back.0) (r.dealt i d low).seen in
        let stays : used_of (seen_of a) ≤ used_of (seen_of a ++ after.0) =
        used_stays (seen_of a) after.0 worked.knows.played
        (λ o few. own_behind o (seen_by p) (seen_of a) (seen_by q) r.driver.0 back.0 after.0
        (none_back o (omega (arith, few, last_is))) r.driver.1 start after.1) in
        let all : used_of (seen_by q) ≡ used_of (seen_of a ++ after.0) = ap used_of after.1 in
        let most_last : most_of (seen_by q) ≡ most_of (seen_by p) = (gone_on meaning law wire p q olds dealts turned news r).most in
        omega (arith, full, stays, all, most, most_last)

    -- a worker that was refused for a full history had an item that is due
    pub items_full : NothingPromised → OneWasRefused news HistoryFull → IsFullBefore IsItemDue sc last (most_of (seen_by p))
    items_full nothing one =
        let d : Worker D = any news (let w = one.within in omega (arith, w)) in
        let i = one.at in
        let low : i < length olds = (let c = r.count in let w = one.within in omega (arith, c, w)) in
        let b = slice_index_or dealts i d in
        let a = slice_index_or turned i d in
        let had = (took i d low).full (sym (r.same i d low).ended ∙ one.is d) in
        let m = meanwhile i d low in
        let site = site_dealt i d low in
        let there : scenario_of (seen_of a) ≡ sc = (took i d low).worked.scenario ∙ ap scenario_of (r.dealt i d low).seen in
        let alike = alike_meanwhile sc (i + 1) (entries_of (seen_of a)) last r.was.played.given legal m in
        let U : ℕ → Type 0 = λ s. is_up_at (entries_of (seen_of a)) s ≡ true in
        let N : ℕ → Type 0 = λ s. IsNextItem (scenario_of (seen_of a)) (entries_of (seen_of a)) s had.item in
        let M : Scenario → Type 0 = λ k. IsNextItem k (entries_of (seen_of a)) (i + 1) had.item in
        let step = same_step sc (history_seen p) last (gone_on meaning law wire p q olds dealts turned news r).grown in
        let most_last : most_of (seen_by q) ≡ most_of (seen_by p) = (gone_on meaning law wire p q olds dealts turned news r).most in
        let room = at_bound nothing (seen_by q) r.played (crew_again meaning law wire p q olds dealts turned news r).none (still_full i d low had.full) in
        item_full sc last (most_of (seen_by p)) (record {
          site = i + 1;
          item = had.item;
          up = alike.up ∙ subst U site had.up;
          next = next_on sc (i + 1) (entries_of (seen_of a)) last had.item alike (subst M there (subst N site had.due));
        }) legal (λ none. begun (sym step.at ∙ none)) (ap is_asking step.present ∙ asks)
        (let e = room.0 in omega (arith, e, most_last)) (let e = room.1 in omega (arith, e, most_last))

    pub items_done : (answer : Result (Unit {0}) RunFault) → OnOk answer (AllEndedWell news) → OnOk answer (Delivering sc last)
    items_done (Ok done) well = record { legal = legal; done = all_through well }
    items_done (Err fault) well = tt
