-- What a site's claim and entry made of what was seen, while others went on.
use Rattle.std.proofs.Common.{◌≡◌, ◌≤◌, ◌<◌, ◌++◌, ◌∷◌, [], ◌+◌, ◌-◌, ℕ, zero, suc, false, List, length, refl, sym, subst, ap, ◌∙◌, append-nil, append_assoc, arith, true}
use Rattle.std.specs.List.{AllByRecursion as Each}
use Rattle.atomic_table.specs.Seated.{TableId}
use Rattle.e3_codec.specs.Fields.{AllCanBeReadBack}
use Rattle.e3_disk.specs.Meaning.{Meaning}
use Rattle.e3_laws.specs.local.Least.{AreOfSites}
use Rattle.e3_laws.specs.local.Others.{Allows, AreOthers, numbered_on}
use Rattle.e3_laws.proofs.local.Alike.{all_on}
use Rattle.e3_laws.proofs.local.Laws.{legal_behind}
use Rattle.e3_node.specs.Claims.{MovesStay, NodesKeptByOthers, NodesStandBehindOthers}
use Rattle.e3_node.specs.Drafts.{IsAsBefore}
use Rattle.e3_node.specs.Ends.{input_fault_of}
use Rattle.e3_log.specs.Stands.{LogState}
use Rattle.e3_node.specs.NodeStands.{IsIn, IsUp, NodeStands}
use Rattle.e3_node.specs.Telling.{IsOfSite}
use Rattle.e3_node.specs.Turns.{HasKeptPromises, HasSeenMore, HasTurned, Meanwhile, scenario_seen}
use Rattle.e3_node.specs.declared.drafts.Draft.{Draft}
use Rattle.e3_node.specs.declared.fault.InputFault.TheVariants as input_fault
use Rattle.e3_node.specs.declared.state.State.{State}
use Rattle.e3_node.specs.declared.state.State.TheVariants.{Up}
use Rattle.e3_site.specs.SiteView.{SiteView, step_kept}
use Rattle.e3_turn.specs.Chronicles.{count_of}
use Rattle.e3_turn.specs.Passes.{GrewByOthers, IsIdle, Owns, SameOwners, seen_by}
use Rattle.e3_types.specs.declared.entries.Act.{Act}
use Rattle.e3_types.specs.declared.entries.Act.TheVariants.{Step, Fall, Rise, RiseFall, Miss, Cut, Drop, Parts, Line}
use Rattle.e3_types.specs.declared.entries.Entry.{Entry}
use Rattle.e3_types.specs.declared.entries.Input.{Input}
use Rattle.e3_types.specs.declared.records.Record.{Record}
use Rattle.e3_types.specs.declared.scenarios.Scenario.{Scenario}
use Rattle.e3_wire.specs.Claims.{APass}
use Rattle.e3_wire.specs.Marks.{AreFew, AreForeign, belongs, entries_of, last_owner, most_of, note_of, nothing, scenario_of, used_by, used_of}
use Rattle.e3_wire.specs.declared.marks.Note.{Note}
use Rattle.e3_wire.specs.Wires.{IsPlayed, MayEnterBehind, TakesInTurn}
use Rattle.e3_wire.specs.declared.fault.WireFault.{WireFault}
use Rattle.e3_wire.specs.declared.fault.WireFault.TheVariants as wire_fault
use Rattle.e3_wire.specs.declared.marks.Mark.{Mark}
use Rattle.e3_wire.specs.declared.marks.Mark.TheVariants as mark
use Rattle.e3_wire.proofs.Claimed.{claimed_entries_stay}
use Rattle.e3_wire.proofs.Foreign.{entries_append, foreign_are_others, foreign_of_sites, notes_stay}
use Rattle.e3_wire.proofs.Notes.{claim_promises, entry_uses, scenario_stays}
use Rattle.e3_wire.proofs.Rooms.{few_back}
use Rattle.e3_wire.proofs.Spending.{used_numbered}
use Rattle.e3_wire.proofs.Staying.{are_others_marks}
use Rattle.e3_world.specs.Items.{inputs_of, is_up_at}
use Rattle.e3_world.specs.Legal.{IsLegal, made_by}
use Rattle.e3_world.specs.Lives.{incarnation_of}
use Rattle.e3_world.specs.Moves.{Move, moves_of}
use Rattle.e3_world.specs.Steps.{step_of}
use Rattle.e3_world.specs.declared.lives.Made.{Made}
use Rattle.e3_world.specs.Packets.{is_calm, lines, outs_of, present_items, step_items}
use Rattle.e3_node.proofs.Apart.{one_more, other_one}
use Rattle.e3_node.proofs.Keeping.{in_kept, moves_kept, node_kept, up_kept}
use Rattle.e3_node.proofs.Steps.{IsMade, ready_up}

pub moves_stay : MovesStay
moves_stay sc site h [] others = ap (λ (l : List Entry). moves_of sc l site) (append-nil h)
moves_stay sc site h (e ∷ more) others =
    ap (λ (l : List Entry). moves_of sc l site) (sym (one_more h more e)) ∙ moves_stay sc site (h ++ e ∷ []) more others.2
    ∙ moves_kept sc h e site (other_one site e others.0)

pub in_others : {D : Type 0} (meaning : Meaning D)
    (sc : Scenario) (h more : List Entry) (site : ℕ) (state : State D) → IsIn meaning sc h site state → AreOthers site more →
    IsIn meaning sc (h ++ more) site state
in_others meaning sc h [] site state was others =
    let P : List Entry → Type 0 = λ l. IsIn meaning sc l site state in subst P (sym (append-nil h)) was
in_others meaning sc h (e ∷ more) site state was others =
    let P : List Entry → Type 0 = λ l. IsIn meaning sc l site state in
    subst P (one_more h more e) (in_others meaning sc (h ++ e ∷ []) more site state
    (in_kept meaning sc h e site state was (other_one site e others.0)) others.2)

pub node_others : {D : Type 0} (meaning : Meaning D) → NodesKeptByOthers meaning
node_others meaning sc h [] node was others =
    let P : List Entry → Type 0 = λ l. NodeStands meaning sc l node in subst P (sym (append-nil h)) was
node_others meaning sc h (e ∷ more) node was others =
    let P : List Entry → Type 0 = λ l. NodeStands meaning sc l node in
    subst P (one_more h more e) (node_others meaning sc (h ++ e ∷ []) more node
    (node_kept meaning sc h e node was (other_one node.site e others.0)) others.2)

pub both_others : (site : ℕ) (xs ys : List Entry) → AreOthers site xs → AreOthers site ys → AreOthers site (xs ++ ys)
both_others site [] ys first second = second
both_others site (e ∷ xs) ys first second = (first.0, first.1, both_others site xs ys first.2 second)

pub both_sites : (xs ys : List Entry) → AreOfSites xs → AreOfSites ys → AreOfSites (xs ++ ys)
both_sites [] ys first second = second
both_sites (e ∷ xs) ys first second = (first.0, both_sites xs ys first.1 second)

-- marks of others behind what was seen
pub one_while : (site : ℕ) (seen since : List Mark) → IsPlayed seen → IsPlayed (seen ++ since) → AreForeign site since →
    Meanwhile site (entries_of seen) (entries_of (seen ++ since))
one_while site seen since was played foreign = record {
  others = entries_of since;
  of_others =
      foreign_are_others (scenario_of seen) site seen since
      (let P : Scenario → Type 0 = λ sc. IsLegal sc (entries_of (seen ++ since)) in subst P (scenario_stays seen since was).0 played.legal) foreign;
  of_sites = foreign_of_sites site since foreign;
  is = entries_append seen since;
}

-- and behind a promise and more of them
pub both_while : (site outs : ℕ) (seen first second : List Mark) → IsPlayed seen → IsPlayed (seen ++ first) → IsPlayed (((seen ++ first) ++ mark.Place site outs ∷ []) ++ second) →
    IsPlayed ((seen ++ first) ++ mark.Place site outs ∷ []) → AreForeign site first → AreForeign site second →
    Meanwhile site (entries_of seen) (entries_of (((seen ++ first) ++ mark.Place site outs ∷ []) ++ second))
both_while site outs seen first second was front played claimed firsts seconds = record {
  others = one.others ++ two.others;
  of_others = both_others site one.others two.others one.of_others two.of_others;
  of_sites = both_sites one.others two.others one.of_sites two.of_sites;
  is =
      two.is ∙ ap (λ (l : List Entry). l ++ two.others) (entries_append (seen ++ first) (mark.Place site outs ∷ []) ∙ append-nil (entries_of (seen ++ first)) ∙ one.is)
      ∙ append_assoc (entries_of seen) one.others two.others;
}
  where
    one : Meanwhile site (entries_of seen) (entries_of (seen ++ first))
    one = one_while site seen first was front firsts

    two : Meanwhile site (entries_of ((seen ++ first) ++ mark.Place site outs ∷ [])) (entries_of (((seen ++ first) ++ mark.Place site outs ∷ []) ++ second))
    two = one_while site ((seen ++ first) ++ mark.Place site outs ∷ []) second claimed played seconds

-- an act of a site uses one place, unless it is a fall over several inputs
abbrev pub UsesOne : Act → Type 0
UsesOne (Fall inputs records why) = length inputs ≡ 1
UsesOne act = Unit {0}

-- an entry that is allowed somewhere uses a place, whatever its packets' numbers
uses : (sc : Scenario) (h now : List Entry) (o : ℕ) (act : Act) (w : Note) → 1 ≤ o → Allows sc h (record { owner = o; act = act }) → 1 ≤ w.places → UsesOne act →
    suc ((used_by w (numbered_on now (record { owner = o; act = act })).act).places) ≡ w.places
uses sc h now zero act w some may place one = absurd (omega (arith, some))
uses sc h now (suc s) (Step i records outs events) w some may place one = omega (arith, place)
uses sc h now (suc s) (Fall inputs records why) w some may place one = omega (arith, place, one)
uses sc h now (suc s) (Rise kept inc) w some may place one = omega (arith, place)
uses sc h now (suc s) (RiseFall kept inc why) w some may place one = omega (arith, place)
uses sc h now (suc s) Miss w some may place one = omega (arith, place)
uses sc h now (suc s) Cut w some may place one = omega (arith, place)
uses sc h now (suc s) (Drop packet) w some may place one = absurd may
uses sc h now (suc s) (Parts parts) w some may place one = absurd may
uses sc h now (suc s) (Line number) w some may place one = absurd may

-- room for so many packets more is used, or given back, by an entry that uses all of such a claim
room_used : (outs : ℕ) (act : Act) (w : Note) → used_by (record { places = 1; room = outs }) act ≡ nothing →
    (used_by (record { places = suc w.places; room = w.room + outs }) act).room ≤ w.room
room_used outs (Step i records packets told) w all = let none : outs - length packets ≡ 0 = ap (λ (x : Note). x.room) all in omega (arith, none)
room_used outs (Fall inputs records why) w all = omega arith
room_used outs (Rise kept inc) w all = let none : outs ≡ 0 = ap (λ (x : Note). x.room) all in omega (arith, none)
room_used outs (RiseFall kept inc why) w all = let none : outs ≡ 0 = ap (λ (x : Note). x.room) all in omega (arith, none)
room_used outs Miss w all = let none : outs ≡ 0 = ap (λ (x : Note). x.room) all in omega (arith, none)
room_used outs Cut w all = let none : outs ≡ 0 = ap (λ (x : Note). x.room) all in omega (arith, none)
room_used outs (Drop packet) w all = let none : outs ≡ 0 = ap (λ (x : Note). x.room) all in omega (arith, none)
room_used outs (Parts parts) w all = let none : outs ≡ 0 = ap (λ (x : Note). x.room) all in omega (arith, none)
room_used outs (Line number) w all = let none : outs ≡ 0 = ap (λ (x : Note). x.room) all in omega (arith, none)

-- how the marks went from what was seen to an entry: others, the claim, others again, the entry
pub record Behind (site outs : ℕ) (seen claimed between marks : List Mark) (e : Entry) : Type 0 where
  pub first : List Mark
  pub second : List Mark
  pub firsts : AreForeign site first
  pub seconds : AreForeign site second
  pub claimed_is : claimed ≡ (seen ++ first) ++ mark.Place site outs ∷ []
  pub between_is : between ≡ claimed ++ second
  pub marks_is : marks ≡ between ++ mark.Entered (numbered_on (entries_of between) e) ∷ []
  pub before_claim : IsPlayed (seen ++ first)
  pub before_entry : IsPlayed between

module _ (site outs : ℕ) (seen claimed between marks : List Mark) (e : Entry) (behind : Behind site outs seen claimed between marks e)
    (owner : e.owner ≡ site) (was : IsPlayed seen) (at_claim : IsPlayed claimed) (played : IsPlayed marks) where
  claim_played : IsPlayed ((seen ++ behind.first) ++ mark.Place site outs ∷ [])
  claim_played = let P : List Mark → Type 0 = λ l. IsPlayed l in subst P behind.claimed_is at_claim

  all_is : between ≡ ((seen ++ behind.first) ++ mark.Place site outs ∷ []) ++ behind.second
  all_is = behind.between_is ∙ ap (λ (l : List Mark). l ++ behind.second) behind.claimed_is

  pub between_played : IsPlayed between
  between_played = behind.before_entry

  pub meanwhile : Meanwhile site (entries_of seen) (entries_of between)
  meanwhile =
      let P : List Mark → Type 0 = λ l. Meanwhile site (entries_of seen) (entries_of l) in
      let Q : List Mark → Type 0 = λ l. IsPlayed l in
      subst P (sym all_is) (both_while site outs seen behind.first behind.second was behind.before_claim (subst Q all_is between_played) claim_played behind.firsts behind.seconds)

  pub entries : entries_of marks ≡ entries_of between ++ numbered_on (entries_of between) e ∷ []
  entries = ap (λ (l : List Mark). entries_of l) behind.marks_is ∙ entries_append between (mark.Entered (numbered_on (entries_of between) e) ∷ [])

  pub seen_more : (since : List Mark) × (marks ≡ seen ++ since)
  seen_more = (
    ((behind.first ++ mark.Place site outs ∷ []) ++ behind.second) ++ mark.Entered (numbered_on (entries_of between) e) ∷ [],
    behind.marks_is ∙ ap (λ (l : List Mark). l ++ mark.Entered (numbered_on (entries_of between) e) ∷ [])
        (all_is ∙ ap (λ (l : List Mark). l ++ behind.second) (append_assoc seen behind.first (mark.Place site outs ∷ [])) ∙ append_assoc seen (behind.first ++ mark.Place site outs ∷ []) behind.second)
        ∙ append_assoc seen ((behind.first ++ mark.Place site outs ∷ []) ++ behind.second) (mark.Entered (numbered_on (entries_of between) e) ∷ []),
  )

  -- the claim and its entry leave what was promised
  pub promised : (sc : Scenario) (h : List Entry) → 1 ≤ e.owner → Allows sc h e → UsesOne e.act → (note_of site marks).places ≡ (note_of site seen).places
  promised sc h some may single =
      let y : Entry = numbered_on (entries_of between) e in
      let claim_note : note_of site claimed ≡ record { places = suc (note_of site (seen ++ behind.first)).places; room = (note_of site (seen ++ behind.first)).room + outs } =
      ap (λ (l : List Mark). note_of site l) behind.claimed_is ∙ claim_promises site outs (seen ++ behind.first) in
      let one : (note_of site claimed).places ≡ suc (note_of site (seen ++ behind.first)).places = ap (λ (w : Note). w.places) claim_note in
      let first_note : note_of site (seen ++ behind.first) ≡ note_of site seen = notes_stay site seen behind.first behind.firsts in
      let two : (note_of site (seen ++ behind.first)).places ≡ (note_of site seen).places = ap (λ (w : Note). w.places) first_note in
      let between_note : note_of site between ≡ note_of site claimed = ap (λ (l : List Mark). note_of site l) behind.between_is ∙ notes_stay site claimed behind.second behind.seconds in
      let three : (note_of site between).places ≡ (note_of site claimed).places = ap (λ (w : Note). w.places) between_note in
      let end_note : note_of site marks ≡ used_by (note_of site between) y.act =
      ap (λ (l : List Mark). note_of site l) behind.marks_is ∙ ap (λ (n : ℕ). note_of n (between ++ mark.Entered y ∷ [])) (sym owner)
      ∙ entry_uses y between ∙ ap (λ (n : ℕ). used_by (note_of n between) y.act) owner in
      let four : (note_of site marks).places ≡ (used_by (note_of site between) y.act).places = ap (λ (w : Note). w.places) end_note in
      let has : 1 ≤ (note_of site between).places = omega (arith, three, one) in
      let spent : suc ((used_by (note_of site between) y.act).places) ≡ (note_of site between).places = uses sc h (entries_of between) e.owner e.act (note_of site between) some may has single in
      omega (arith, one, two, three, four, spent)

  -- and no room stays promised that was not before
  pub room_left : used_by (record { places = 1; room = outs }) e.act ≡ nothing → (note_of site marks).room ≤ (note_of site seen).room
  room_left all =
      let was_there : Note = note_of site seen in
      let more : Note = record { places = suc was_there.places; room = was_there.room + outs } in
      let claimed_is : note_of site claimed ≡ more =
      ap (λ (l : List Mark). note_of site l) behind.claimed_is ∙ claim_promises site outs (seen ++ behind.first)
      ∙ ap (λ (w : Note). let x : Note = record { places = suc w.places; room = w.room + outs } in x) (notes_stay site seen behind.first behind.firsts) in
      let between_is : note_of site between ≡ more =
      ap (λ (l : List Mark). note_of site l) behind.between_is ∙ notes_stay site claimed behind.second behind.seconds ∙ claimed_is in
      let y : Entry = numbered_on (entries_of between) e in
      let end_is : note_of site marks ≡ used_by more e.act =
      ap (λ (l : List Mark). note_of site l) behind.marks_is ∙ ap (λ (n : ℕ). note_of n (between ++ mark.Entered y ∷ [])) (sym owner)
      ∙ entry_uses y between ∙ ap (λ (n : ℕ). used_by (note_of n between) y.act) owner ∙ ap (λ (w : Note). used_by w y.act) between_is
      ∙ used_numbered (entries_of between) e.owner e.act more in
      let end_room : (note_of site marks).room ≡ (used_by more e.act).room = ap (λ (w : Note). w.room) end_is in
      let few : (used_by more e.act).room ≤ was_there.room = room_used outs e.act was_there all in
      omega (arith, end_room, few)

-- what a pass saw of its claim and its entry
pub behind_of : (p q r : APass) (site outs : ℕ) (e : Entry) → Owns p site → Owns q site → (between : List Mark) → GrewByOthers belongs p between →
    seen_by q ≡ between ++ mark.Place site outs ∷ [] → (later : List Mark) → GrewByOthers belongs q later →
    seen_by r ≡ later ++ mark.Entered (numbered_on (entries_of later) e) ∷ [] → IsPlayed between → IsPlayed later →
    Behind site outs (seen_by p) (seen_by q) later (seen_by r) e
behind_of p q r site outs e owns still between grew claimed later grew_later entered front front_later =
    let one = are_others_marks p site between owns grew in
    let two = are_others_marks q site later still grew_later in
    let P : List Mark → Type 0 = λ l. IsPlayed l in
    record {
      first = one.0;
      second = two.0;
      firsts = one.2;
      seconds = two.2;
      claimed_is = claimed ∙ ap (λ (l : List Mark). l ++ mark.Place site outs ∷ []) one.1;
      between_is = two.1;
      marks_is = entered;
      before_claim = subst P one.1 front;
      before_entry = front_later;
    }

pub still_owns : (p q : APass) (site : ℕ) → SameOwners p q → Owns p site → Owns q site
still_owns p q site same owns = subst (λ (l : List ℕ). 0 < count_of site l) (sym same.owners) owns

-- an entry that is allowed behind what was seen may be entered behind its claim
pub may_commit : (p : APass) (claimed : List Mark) (outs : ℕ) (e : Entry) (between : List Mark) → Owns p e.owner → GrewByOthers belongs p between → IsPlayed between →
    claimed ≡ between ++ mark.Place e.owner outs ∷ [] → IsPlayed (seen_by p) → IsPlayed claimed → 1 ≤ e.owner → e.owner ≤ last_owner (seen_by p) →
    is_calm (present_items (scenario_of (seen_by p)) (entries_of (seen_by p))) ≡ false → Allows (scenario_of (seen_by p)) (entries_of (seen_by p)) e →
    TakesInTurn (scenario_of (seen_by p)) (entries_of (seen_by p)) e.owner (inputs_of e.act) → length (outs_of e.act) ≤ outs → MayEnterBehind claimed e
may_commit p claimed outs e between owns grew front is was at_claim some exists restless may takes few =
    let one = are_others_marks p e.owner between owns grew in
    let all : claimed ≡ (seen_by p ++ one.0) ++ mark.Place e.owner outs ∷ [] = is ∙ ap (λ (l : List Mark). l ++ mark.Place e.owner outs ∷ []) one.1 in
    let P : List Mark → Type 0 = λ l. IsPlayed l in
    let Q : List Mark → Type 0 = λ l. MayEnterBehind l e in
    let first : IsPlayed (seen_by p ++ one.0) = subst P one.1 front in
    let R : List Mark → Type 0 = λ l. AreFew l in
    let small = few_back (seen_by p ++ one.0) (mark.Place e.owner outs ∷ []) (subst R all at_claim.promises) in
    subst Q (sym all) (claimed_entries_stay e outs (seen_by p) one.0 first one.2 some exists restless may takes few small.0)

-- no recover step begins meanwhile
pub still_restless : (p : APass) (claimed between : List Mark) (site outs : ℕ) → Owns p site → GrewByOthers belongs p between → IsPlayed between →
    claimed ≡ between ++ mark.Place site outs ∷ [] → IsPlayed (seen_by p) → IsPlayed claimed → is_calm (present_items (scenario_of (seen_by p)) (entries_of (seen_by p))) ≡ false →
    is_calm (present_items (scenario_of claimed) (entries_of claimed)) ≡ false
still_restless p claimed between site outs owns grew front is was at_claim restless =
    let one = are_others_marks p site between owns grew in
    let sc = scenario_of (seen_by p) in
    let h = entries_of (seen_by p) in
    let all : claimed ≡ (seen_by p ++ one.0) ++ mark.Place site outs ∷ [] = is ∙ ap (λ (l : List Mark). l ++ mark.Place site outs ∷ []) one.1 in
    let P : List Mark → Type 0 = λ l. IsPlayed l in
    let first : IsPlayed (seen_by p ++ one.0) = subst P one.1 front in
    let m : Meanwhile site h (entries_of (seen_by p ++ one.0)) = one_while site (seen_by p) one.0 was first one.2 in
    let keys : scenario_of claimed ≡ sc =
    ap (λ (l : List Mark). scenario_of l) (all ∙ append_assoc (seen_by p) one.0 (mark.Place site outs ∷ [])) ∙ (scenario_stays (seen_by p) (one.0 ++ mark.Place site outs ∷ []) was).0 in
    let entries : entries_of claimed ≡ h ++ m.others =
    ap (λ (l : List Mark). entries_of l) all ∙ entries_append (seen_by p ++ one.0) (mark.Place site outs ∷ []) ∙ append-nil (entries_of (seen_by p ++ one.0)) ∙ m.is in
    let L : Scenario → Type 0 = λ x. IsLegal x (entries_of claimed) in
    let M : List Entry → Type 0 = λ x. IsLegal sc x in
    let legal : IsLegal sc (h ++ m.others) = subst M entries (subst L keys at_claim.legal) in
    let line : lines (h ++ m.others) ≡ lines h = (all_on sc site h m.others was.given (legal_behind sc [] h m.others legal) m.of_others).line in
    ap (λ (x : Scenario). is_calm (present_items x (entries_of claimed))) keys ∙ ap (λ (l : List Entry). is_calm (present_items sc l)) entries
    ∙ ap (λ (n : ℕ). is_calm (step_items sc n)) line ∙ restless

-- a site that is up is so meanwhile
pub up_meanwhile : {D : Type 0} (meaning : Meaning D)
    (sc : Scenario) (h now : List Entry) (site : ℕ) (state : State D) → Meanwhile site h now → IsIn meaning sc h site state →
    IsIn meaning sc now site state
up_meanwhile meaning sc h now site state m was =
    let P : List Entry → Type 0 = λ l. IsIn meaning sc l site state in
    subst P (sym m.is) (in_others meaning sc h m.others site state was m.of_others)

-- and what a draft has is what it makes meanwhile
pub made_meanwhile : (sc : Scenario) (h now : List Entry) (site : ℕ) (i : Input) (d : Draft) → Meanwhile site h now → IsMade sc h site i d → IsMade sc now site i d
made_meanwhile sc h now site i d m made =
    let same : moves_of sc now site ≡ moves_of sc h site = ap (λ (l : List Entry). moves_of sc l site) m.is ∙ moves_stay sc site h m.others m.of_others in
    let step : made_by sc h site i ≡ made_by sc now site i = ap (λ (ms : List Move). step_of sc.weights site (incarnation_of ms) i) (sym same) in
    record {
      step_is = made.step_is ∙ ap (step_kept i) step;
      inputs_are = made.inputs_are;
      back = subst (λ (x : Made). Each (IsOfSite site) x.records → AllCanBeReadBack site x.records) step made.back;
    }

-- nothing happened
pub no_while : (site : ℕ) (h : List Entry) → Meanwhile site h h
no_while site h = record { others = []; of_others = tt; of_sites = tt; is = sym (append-nil h) }

-- a call that only looked, or that was refused its claim
pub looked : (lock : TableId) (p q : APass) (site : ℕ) (between : List Mark) → Owns p site → IsPlayed (seen_by p) → IsPlayed (seen_by q) → IsIdle lock q → SameOwners p q →
    GrewByOthers belongs p between → seen_by q ≡ between → HasKeptPromises lock site p q × Meanwhile site (entries_of (seen_by p)) (entries_of (seen_by q))
looked lock p q site between owns was played idle same grew is =
    let one = are_others_marks p site between owns grew in
    let all : seen_by q ≡ seen_by p ++ one.0 = is ∙ one.1 in
    let P : List Mark → Type 0 = λ l. IsPlayed l in
    let R : List Mark → Type 0 = λ l. Meanwhile site (entries_of (seen_by p)) (entries_of l) in (
      record {
        turned = record { idle = idle; same = same; played = played; seen = (one.0, all) };
        promised = ap (λ (l : List Mark). (note_of site l).places) all ∙ ap (λ (w : Note). w.places) (notes_stay site (seen_by p) one.0 one.2);
        room =
            let same : (note_of site (seen_by q)).room ≡ (note_of site (seen_by p)).room =
            ap (λ (l : List Mark). (note_of site l).room) all ∙ ap (λ (w : Note). w.room) (notes_stay site (seen_by p) one.0 one.2) in
            omega (arith, same);
      },
      subst R (sym all) (one_while site (seen_by p) one.0 was (subst P all played) one.2),
    )

-- nothing was seen
pub same_turn : (lock : TableId) (p : APass) → IsIdle lock p → IsPlayed (seen_by p) → HasTurned lock p p
same_turn lock p idle played = record {
  idle = idle;
  same = record { owners = refl; last = refl };
  played = played;
  seen = ([], sym (append-nil (seen_by p)));
}

pub same_pass : (lock : TableId) (p : APass) (site : ℕ) → IsIdle lock p → IsPlayed (seen_by p) → HasKeptPromises lock site p p
same_pass lock p site idle played = record { turned = same_turn lock p idle played; promised = refl; room = omega arith }

-- while a pass of the site rests, others leave a node standing
pub node_behind : {D : Type 0} (meaning : Meaning D) → NodesStandBehindOthers meaning
node_behind meaning p marks node owns grew was played stands =
    let one = are_others_marks p node.site marks owns grew in
    let P : List Mark → Type 0 = λ l. IsPlayed l in
    let m : Meanwhile node.site (entries_of (seen_by p)) (entries_of (seen_by p ++ one.0)) = one_while node.site (seen_by p) one.0 was (subst P one.1 played) one.2 in
    let there : NodeStands meaning (scenario_of (seen_by p)) (entries_of (seen_by p) ++ m.others) node =
    node_others meaning (scenario_of (seen_by p)) (entries_of (seen_by p)) m.others node stands m.of_others in
    let Q : List Entry → Type 0 = λ h. NodeStands meaning (scenario_of (seen_by p)) h node in
    let R : Scenario → Type 0 = λ sc. NodeStands meaning sc (entries_of (seen_by p ++ one.0)) node in
    let S : List Mark → Type 0 = λ l. NodeStands meaning (scenario_of l) (entries_of l) node in
    subst S (sym one.1) (subst R (sym (scenario_stays (seen_by p) one.0 was).0) (subst Q (sym m.is) there))

-- a claim and its entry
pub entered_turn : (lock : TableId) (p q r : APass) (site outs : ℕ) (e : Entry) (between : List Mark) → Behind site outs (seen_by p) (seen_by q) between (seen_by r) e →
    e.owner ≡ site → IsPlayed (seen_by p) → IsPlayed (seen_by q) → IsPlayed (seen_by r) → 1 ≤ e.owner → (sc : Scenario) (h : List Entry) → Allows sc h e → UsesOne e.act → used_by (record { places = 1; room = outs }) e.act ≡ nothing →
    IsIdle lock r → SameOwners p q → SameOwners q r → HasKeptPromises lock site p r
entered_turn lock p q r site outs e between behind owner was at_claim played some sc h may single all_used idle one two = record {
  turned = record {
    idle = idle;
    same = record { owners = two.owners ∙ one.owners; last = two.last ∙ one.last };
    played = played;
    seen = seen_more site outs (seen_by p) (seen_by q) between (seen_by r) e behind owner was at_claim played;
  };
  promised = promised site outs (seen_by p) (seen_by q) between (seen_by r) e behind owner was at_claim played sc h some may single;
  room = room_left site outs (seen_by p) (seen_by q) between (seen_by r) e behind owner was at_claim played all_used;
}

-- a claim that was refused for a full history
pub full_told : (w : WireFault) (between seen : List Mark) → seen ≡ between →
    (w ≡ wire_fault.HistoryFull → most_of between ≤ used_of between) → input_fault_of w ≡ input_fault.HistoryFull → most_of seen ≤ used_of seen
full_told wire_fault.HistoryFull between seen is full told = let P : List Mark → Type 0 = λ l. most_of l ≤ used_of l in subst P (sym is) (full refl)
full_told wire_fault.NoMemory between seen is full told = absurd cc

-- a site that only made ready is up meanwhile
pub still_up : {D : Type 0} {rose : List Record} (meaning : Meaning D)
    (sc : Scenario) (h more : List Entry) (site : ℕ) (s new : SiteView) (l : LogState D) (logged : ℕ) → Meanwhile site h more → IsUp meaning sc h site s l rose logged →
    IsAsBefore s new → IsUp meaning sc more site new l rose logged
still_up {D} {rose} meaning sc h more site s new l logged m was is =
    ready_up meaning sc more site s new l logged (up_meanwhile meaning sc h more site (Up s l rose logged) m was) is

-- the scenario stays
pub keys_stay : (p q : APass) → IsPlayed (seen_by p) → HasSeenMore p q → (scenario_seen q ≡ scenario_seen p) × (most_of (seen_by q) ≡ most_of (seen_by p))
keys_stay p q played seen =
    let stay = scenario_stays (seen_by p) seen.0 played in
    (ap (λ (l : List Mark). scenario_of l) seen.1 ∙ stay.0, ap (λ (l : List Mark). most_of l) seen.1 ∙ stay.1)

-- a site that is up stays so while others go on
up_others : (h more : List Entry) (site : ℕ) → is_up_at h site ≡ true → AreOthers site more → is_up_at (h ++ more) site ≡ true
up_others h [] site up others = ap (λ (l : List Entry). is_up_at l site) (append-nil h) ∙ up
up_others h (e ∷ more) site up others =
    ap (λ (l : List Entry). is_up_at l site) (sym (one_more h more e)) ∙ up_others (h ++ e ∷ []) more site (up_kept h e site (other_one site e others.0) ∙ up) others.2

pub up_while : (h now : List Entry) (site : ℕ) → Meanwhile site h now → is_up_at h site ≡ true → is_up_at now site ≡ true
up_while h now site m up = ap (λ (l : List Entry). is_up_at l site) m.is ∙ up_others h m.others site up m.of_others
