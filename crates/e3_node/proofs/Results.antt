-- A batch that was planned, behind what others put since.
use Rattle.std.proofs.Common.{◌≡◌, ◌≢◌, ◌+◌, ◌-◌, ◌≤◌, ◌++◌, ◌∷◌, [], inl, inr, ℕ, zero, suc, true, false, List, length, take, refl, sym, subst, ap, ◌∙◌, append_assoc, arith}
use Rattle.std.proofs.lemmas.List.{length-take-le}
use Rattle.std.specs.Prelude.{None, Option, Result, Some, Ok, Err, IfOk}
use Rattle.atomic_table.specs.Seated.{TableId}
use Rattle.e3_codec.specs.Fields.{AllCanBeReadBack}
use Rattle.e3_disk.specs.Meaning.{Meaning}
use Rattle.e3_disk.specs.Meters.{Keeps, Meters}
use Rattle.e3_laws.specs.steps.Begun.{BegunAreTransactions, RecordsMentionWhatStands}
use Rattle.e3_laws.specs.local.Drafts.{MayTakeAll}
use Rattle.e3_laws.specs.local.Least.{AreFirstTo}
use Rattle.e3_laws.specs.local.Others.{Allows, numbered_on}
use Rattle.e3_laws.specs.serial.Orderly.{LogsAreOrderly}
use Rattle.e3_world.specs.Orderly.{IsOrderly}
use Rattle.e3_laws.specs.brief.Sets.{LoggedSitesAreSets}
use Rattle.e3_laws.specs.steps.Trails.{VotesAtTheirSite}
use Rattle.e3_log.specs.Stands.{LogState}
use Rattle.e3_node.specs.Batched.{HasPlanned, IsBatch}
use Rattle.e3_node.specs.Batches.{FrameTakes, fall_over, unnumbered_steps, stepped}
use Rattle.e3_node.specs.Bodies.{DiskTells, entries_at}
use Rattle.e3_node.specs.Ending.{EndsWith}
use Rattle.e3_node.specs.site_log.Bodies.{IsLogged, ReadsLeft}
use Rattle.e3_node.specs.site_log.Ends.{HasRoom, HasRoomUnlessShort, IsBehind, IsPut, IsReason, IsShortIf, Takes, calls_for, size_of}
use Rattle.e3_node.specs.declared.site_log.writing.Short.{Short}
use Rattle.e3_node.specs.NodeStands.{IsUp, steps_at}
use Rattle.e3_node.specs.Several.{MayEnterAll, claims_for, marks_in}
use Rattle.e3_node.specs.Turns.{HasTurned, Meanwhile}
use Rattle.e3_node.specs.declared.batching.Batch.{Batch}
use Rattle.e3_node.specs.declared.fault.InputFault.{InputFault}
use Rattle.e3_node.specs.declared.state.State.TheVariants.{Up}
use Rattle.e3_node.specs.Ends.{IsOneFrame}
use Rattle.e3_site.specs.SiteView.{SiteView}
use Rattle.e3_turn.specs.Passes.{GrewByOthers, IsIdle, OwnsAll, Owns, SameOwners, seen_by}
use Rattle.e3_types.specs.Spelling.{spelling}
use Rattle.e3_types.specs.declared.entries.Act.TheVariants.{Fall}
use Rattle.e3_types.specs.declared.entries.Entry.{Entry}
use Rattle.e3_types.specs.declared.entries.Input.{Input}
use Rattle.e3_types.specs.declared.entries.Why.{Why}
use Rattle.e3_types.specs.declared.entries.Why.TheVariants.{Fault}
use Rattle.e3_types.specs.declared.records.Record.{Record}
use Rattle.e3_types.specs.declared.scenarios.Scenario.{Scenario}
use Rattle.e3_wire.specs.Claims.{APass}
use Rattle.e3_wire.specs.Marks.{belongs, entries_of, note_of, nothing, scenario_of, used_by}
use Rattle.e3_wire.specs.Wires.{IsPlayed, MayEnterBehind, TakesInTurn}
use Rattle.e3_wire.specs.declared.marks.Mark.{Mark}
use Rattle.e3_wire.specs.declared.marks.Mark.TheVariants as mark
use Rattle.e3_wire.specs.declared.marks.Note.{Note}
use Rattle.e3_wire.proofs.Foreign.{entries_append, notes_stay}
use Rattle.e3_wire.proofs.Notes.{entry_uses, scenario_stays}
use Rattle.e3_wire.proofs.Staying.{are_others_marks}
use Rattle.e3_world.specs.Items.{is_up_at}
use Rattle.e3_world.specs.Legal.{AreDue, Guard, IsLegal, records_by}
use Rattle.e3_world.specs.Moves.{log_by, log_of, moves_of}
use Rattle.e3_world.specs.Packets.{is_calm, present_items}
use Rattle.e3_node.proofs.Framing.{one_frame}
use Rattle.e3_node.proofs.Batches.{unnumbered_same, records_own, records_same, some_inputs, stepped_same, stepped_up}
use Rattle.e3_node.proofs.Bundles.{all_due_first, unnumbered_length, unnumbered_list, unnumbered_own, stepped_count, steps_log, steps_logged, steps_use}
use Rattle.e3_node.proofs.Outcomes.{due_meanwhile, fallen_all_tells, first_of_all, first_turn, may_all, may_take_front, meanwhile_then, moves_meanwhile, stands_same}
use Rattle.e3_node.proofs.Orders.{log_in_order, stepped_legal}
use Rattle.e3_node.proofs.Several.{entries_claimed, entries_freed, entries_in, note_claimed, note_entered, note_freed, outs_in, used_all}
use Rattle.e3_node.proofs.Waiting.{one_while, up_meanwhile}
use Rattle.e3_node.proofs.Written.{Follows}

-- the guard of a fall over several inputs
fall_all_guard : (sc : Scenario) (h : List Entry) (site : ℕ) (inputs : List Input) (records : List Record) (why : Why) → 1 ≤ site → is_up_at h site ≡ true →
    AreDue sc h site inputs → records ≢ [] → records ≡ records_by sc h site inputs → Guard sc h (record { owner = site; act = Fall inputs records why })
fall_all_guard sc h zero inputs records why one up due some is = absurd (omega (arith, one))
fall_all_guard sc h (suc n) inputs records why one up due some is = record { up = up; due = due; some = some; made = is }

-- what is said of an answer goes on to what follows from it
if_told : (r : Result ℕ InputFault) (P Q : ℕ → Type 0) → ((n : ℕ) → P n → Q n) → IfOk r P → IfOk r Q
if_told (Ok n) P Q so is = so n is
if_told (Err fault) P Q so is = tt

-- what one frame takes is the same where the moves of the site are
frame_same : {D : Type 0} (meters : D → Meters) (log : LogState D) (sc : Scenario) (h k : List Entry) (site : ℕ) (inputs : List Input) (n : ℕ) →
    moves_of sc k site ≡ moves_of sc h site → FrameTakes meters log sc k site inputs n → FrameTakes meters log sc h site inputs n
frame_same meters log sc h k site inputs n same (inl all) = inl all
frame_same meters log sc h k site inputs n same (inr fill) =
    let now : records_by sc k site (take n inputs) ≡ records_by sc h site (take n inputs) = records_same sc site h k (take n inputs) same in
    let N : List Record → Type 0 = λ rs. HasRoom meters log (size_of rs) → ⊥ in
    let R : List Record → Type 0 = λ rs. HasRoom meters log (size_of rs) in
    inr (record {
      fewer = fill.fewer;
      some = λ none. fill.some (now ∙ none);
      room = subst R now fill.room;
      full = subst N (records_same sc site h k (take (n + 1) inputs) same) fill.full;
    })

-- what was seen, and marks of others behind it
module _ (p : APass) (site : ℕ) (owns : Owns p site) (was : IsPlayed (seen_by p)) where
  pub seen_while : (marks : List Mark) → GrewByOthers belongs p marks → IsPlayed marks → Meanwhile site (entries_of (seen_by p)) (entries_of marks)
  seen_while marks grew played =
      let one = are_others_marks p site marks owns grew in
      let P : List Mark → Type 0 = λ l. IsPlayed l in
      let R : List Mark → Type 0 = λ l. Meanwhile site (entries_of (seen_by p)) (entries_of l) in
      subst R (sym one.1) (one_while site (seen_by p) one.0 was (subst P one.1 played) one.2)

  pub keys : (marks : List Mark) → GrewByOthers belongs p marks → scenario_of marks ≡ scenario_of (seen_by p)
  keys marks grew = ap (λ (l : List Mark). scenario_of l) grew.1 ∙ (scenario_stays (seen_by p) grew.0 was).0

  pub note_same : (marks : List Mark) → GrewByOthers belongs p marks → note_of site marks ≡ note_of site (seen_by p)
  note_same marks grew =
      let one = are_others_marks p site marks owns grew in
      ap (λ (l : List Mark). note_of site l) one.1 ∙ notes_stay site (seen_by p) one.0 one.2

module _ {rose : List Record} {D0 : Type 0} (meters0 : D0 → Meters) (on_disk : LogState D0) (p q : APass) (site first : ℕ) (inputs : List Input) (answer : Result ℕ InputFault)
    (batch : Batch) (s : SiteView) (plan : HasPlanned meters0 on_disk p site rose first inputs answer batch s (seen_by q)) (owns : Owns p site) (owns_q : Owns q site)
    (was : IsPlayed (seen_by p)) (played_q : IsPlayed (seen_by q)) where
  abbrev sc : Scenario
  sc = scenario_of (seen_by p)

  abbrev h : List Entry
  h = entries_of (seen_by p)

  abbrev b : List Mark
  b = plan.between

  abbrev f : List Mark
  f = b ++ mark.Freed site ∷ []

  abbrev h1 : List Entry
  h1 = entries_of b

  abbrev done : List Input
  done = take plan.count inputs

  abbrev steps : List Entry
  steps = unnumbered_steps sc h1 site done

  pub first_while : Meanwhile site h h1
  first_while = seen_while p site owns was b plan.grew plan.played

  pub first_keys : scenario_of b ≡ sc
  first_keys = keys p site owns was b plan.grew

  -- how many one frame takes, as the pass saw the history first
  pub frame_seen : IfOk answer (λ n. (n ≡ plan.count) × FrameTakes meters0 on_disk sc h site inputs plan.count)
  frame_seen =
      let P : Scenario → ℕ → Type 0 = λ k n. (n ≡ plan.count) × FrameTakes meters0 on_disk k h1 site inputs plan.count in
      let Q : ℕ → Type 0 = λ n. (n ≡ plan.count) × FrameTakes meters0 on_disk sc h site inputs plan.count in
      if_told answer (P (scenario_of b)) Q
      (λ n is. (is.0, frame_same meters0 on_disk sc h h1 site inputs plan.count (moves_meanwhile sc h h1 site first_while) (subst (λ (k : Scenario). P k n) first_keys is).1))
      plan.added.all

  pub made : IsBatch meters0 on_disk sc h1 site rose f first done batch s (seen_by q)
  made = let P : Scenario → Type 0 = λ k. IsBatch meters0 on_disk k h1 site rose f first done batch s (seen_by q) in subst P first_keys plan.made

  pub claimed : seen_by q ≡ f ++ claims_for steps
  claimed = made.claimed

  behind_b : seen_by q ≡ b ++ (mark.Freed site ∷ claims_for steps)
  behind_b = claimed ∙ append_assoc b (mark.Freed site ∷ []) (claims_for steps)

  pub entries_q : entries_of (seen_by q) ≡ h1
  entries_q = ap (λ (l : List Mark). entries_of l) claimed ∙ entries_claimed f steps ∙ entries_freed b site

  pub keys_q : scenario_of (seen_by q) ≡ sc
  keys_q = ap (λ (l : List Mark). scenario_of l) behind_b ∙ (scenario_stays b (mark.Freed site ∷ claims_for steps) plan.played).0 ∙ first_keys

  pub note_q : note_of site (seen_by q) ≡ record { places = 0 + length steps; room = 0 + outs_in steps }
  note_q =
      ap (λ (l : List Mark). note_of site l) claimed ∙ note_claimed site f steps (unnumbered_own sc h1 site done)
      ∙ ap (λ (w : Note). let v : Note = record { places = w.places + length steps; room = w.room + outs_in steps } in v) (note_freed b site)

  pub body_size : length batch.body ≡ size_of batch.records
  body_size = ap length (made.body_is ∙ ap spelling (sym made.records_are))

  pub count_is : length done ≡ plan.count
  count_is = length-take-le plan.count inputs plan.added.within

  pub steps_are : length batch.steps.items ≡ plan.count
  steps_are = ap (λ (l : List Entry). length l) made.steps_are ∙ unnumbered_length sc h1 site done ∙ count_is

  pub seen_b : (more : List Mark) × (seen_by q ≡ seen_by p ++ more)
  seen_b = (
    plan.grew.0 ++ (mark.Freed site ∷ claims_for steps),
    behind_b ∙ ap (λ (l : List Mark). l ++ (mark.Freed site ∷ claims_for steps)) plan.grew.1 ∙ append_assoc (seen_by p) plan.grew.0 (mark.Freed site ∷ claims_for steps),
  )

  -- a site that was up is so behind what others put
  pub up_first : {D : Type 0} (meaning : Meaning D) (s0 : SiteView) (old : LogState D) (n : ℕ) →
      IsUp meaning sc h site s0 old rose n → is_up_at h1 site ≡ true
  up_first meaning s0 old n stood =
      let there : IsUp meaning sc h1 site s0 old rose n = up_meanwhile meaning sc h h1 site (Up s0 old rose n) first_while stood in there.up

  module _ (some : 1 ≤ site) (up : is_up_at h site ≡ true) (calm : is_calm (present_items sc h) ≡ false) (may : MayTakeAll sc h site inputs)
      (firsts : AreFirstTo sc h site inputs) where
    due_h : AreDue sc h site done
    due_h = all_due_first sc h site done was.legal some up calm (may_take_front sc h site plan.count inputs may) (first_of_all sc h site plan.count inputs firsts)

    legal_1 : IsLegal sc h1
    legal_1 = let P : Scenario → Type 0 = λ k. IsLegal k h1 in subst P first_keys plan.played.legal

    pub all_1 : AreFirstTo sc h1 site done × AreDue sc h1 site done × (is_calm (present_items sc h1) ≡ false)
    all_1 = due_meanwhile sc h h1 site done was.given legal_1 first_while calm (first_of_all sc h site plan.count inputs firsts) due_h

    -- no recover step is on
    pub restless_q : is_calm (present_items (scenario_of (seen_by q)) (entries_of (seen_by q))) ≡ false
    restless_q =
        ap (λ (x : Scenario). is_calm (present_items x (entries_of (seen_by q)))) keys_q ∙ ap (λ (l : List Entry). is_calm (present_items sc l)) entries_q ∙ all_1.2

    pub alone : is_calm (present_items (scenario_of (seen_by q)) (entries_of (seen_by q))) ≡ true → OwnsAll q
    alone calm_q = absurd (let both = sym calm_q ∙ restless_q in cc)

    -- a fall over them may be entered
    pub fall_may : (over : List Input) (why : Why) → over ≡ done → batch.records ≢ [] → is_up_at h1 site ≡ true → site ≤ length sc.weights →
        MayEnterBehind (seen_by q) (record { owner = site; act = Fall over batch.records why })
    fall_may over why is recorded up_1 exists = record {
      site = some;
      exists = (let P : Scenario → Type 0 = λ x. site ≤ length x.weights in subst P (sym keys_q) exists);
      allowed =
          (let P : Scenario → Type 0 = λ x. Allows x (entries_of (seen_by q)) e in
          let Q : List Entry → Type 0 = λ l. Allows sc l e in
          subst P (sym keys_q) (subst Q (sym entries_q) (fall_all_guard sc h1 site over batch.records why some up_1 (subst (λ (l : List Input). AreDue sc h1 site l) (sym is) all_1.1)
          recorded (made.records_are ∙ ap (λ (l : List Input). records_by sc h1 site l) (sym is)))));
      takes =
          (let P : Scenario → Type 0 = λ x. TakesInTurn x (entries_of (seen_by q)) site over in
          let Q : List Entry → Type 0 = λ l. TakesInTurn sc l site over in
          subst P (sym keys_q) (subst Q (sym entries_q) (subst (λ (l : List Input). TakesInTurn sc h1 site l) (sym is) (first_turn sc h1 site done all_1.0))));
      place =
          (let n : 1 ≤ length done = some_inputs sc h1 site done (λ none. recorded (made.records_are ∙ none)) in
          let long : length steps ≡ length done = unnumbered_length sc h1 site done in
          let there : (note_of site (seen_by q)).places ≡ 0 + length steps = ap (λ (w : Note). w.places) note_q in
          omega (arith, n, long, there));
      room = (let none : 0 ≤ (note_of site (seen_by q)).room = omega arith in none);
      few = omega arith;
    }
      where
        e : Entry
        e = record { owner = site; act = Fall over batch.records why }

    -- behind what others put since
    module _ (marks : List Mark) (grew : GrewByOthers belongs q marks) (played : IsPlayed marks) where
      abbrev k : List Entry
      k = entries_of marks

      pub keys_2 : scenario_of marks ≡ sc
      keys_2 = keys q site owns_q played_q marks grew ∙ keys_q

      pub legal_2 : IsLegal sc k
      legal_2 = let P : Scenario → Type 0 = λ x. IsLegal x k in subst P keys_2 played.legal

      pub second_while : Meanwhile site h1 k
      second_while = let P : List Entry → Type 0 = λ l. Meanwhile site l k in subst P entries_q (seen_while q site owns_q played_q marks grew played)

      pub all_while : Meanwhile site h k
      all_while = meanwhile_then site h h1 k first_while second_while

      pub all_2 : AreFirstTo sc k site done × AreDue sc k site done × (is_calm (present_items sc k) ≡ false)
      all_2 = due_meanwhile sc h1 k site done was.given legal_2 second_while all_1.2 all_1.0 all_1.1

      pub same_steps : batch.steps.items ≡ unnumbered_steps sc k site done
      same_steps = made.steps_are ∙ sym (unnumbered_same sc site h1 k done (moves_meanwhile sc h1 k site second_while))

      pub same_records : batch.records ≡ records_by sc k site done
      same_records = made.records_are ∙ sym (records_same sc site h1 k done (moves_meanwhile sc h1 k site second_while))

      pub may_all_enter : site ≤ length sc.weights → is_up_at k site ≡ true → MayEnterAll marks batch.steps.items
      may_all_enter exists up_k =
          let one = are_others_marks q site marks owns_q grew in
          let P : List Entry → Type 0 = λ l. MayEnterAll marks l in
          let now : marks ≡ (f ++ claims_for steps) ++ one.0 = one.1 ∙ ap (λ (l : List Mark). l ++ one.0) claimed in
          subst P (sym made.steps_are)
          (may_all sc h1 site first done 0 0 f one.0 marks played now one.2 keys_2 k refl second_while
          some exists up_k all_2.0 all_2.1 (note_freed b site))

      pub seen_records : batch.records ≡ records_by sc h site done
      seen_records = made.records_are ∙ records_same sc site h h1 done (moves_meanwhile sc h h1 site first_while)

      -- the records can be read back
      pub records_back : RecordsMentionWhatStands → BegunAreTransactions → VotesAtTheirSite → is_up_at h1 site ≡ true → AllCanBeReadBack site (records_by sc k site done)
      records_back mentions begun votes up_1 =
          let P : List Record → Type 0 = λ rs. AllCanBeReadBack site rs in
          subst P (sym made.records_are ∙ same_records)
          (made.back (records_own mentions begun votes sc h1 site done was.given legal_1 some up_1 all_1.1))

      log_second : log_of sc k site ≡ log_of sc h1 site
      log_second = ap log_by (moves_meanwhile sc h1 k site second_while)

      -- what they record may be written, and to what the log may be turned
      pub all_follow : LogsAreOrderly → LoggedSitesAreSets → RecordsMentionWhatStands → BegunAreTransactions → VotesAtTheirSite → is_up_at h1 site ≡ true → is_up_at k site ≡ true →
          Follows site (log_of sc k site) batch.records batch.short
      all_follow logs sets mentions begun votes up_1 up_k = record {
        short = let P : List Record → Type 0 = λ l. IsShortIf site l batch.short in subst P (sym log_second) made.short;
        orderly =
            let P : List Record → Type 0 = λ l. IsOrderly site l in
            let Q : List Record → Type 0 = λ rs. IsOrderly site (log_of sc k site ++ rs) in
            subst Q (sym same_records) (subst P (steps_log sc k site done)
            (log_in_order logs sets sc (stepped sc k site done) site was.given (stepped_legal sc k site done some up_k all_2.1 legal_2)).orderly);
        back = let P : List Record → Type 0 = λ rs. AllCanBeReadBack site rs in subst P (sym same_records) (records_back mentions begun votes up_1);
      }

      -- without a short log the frame has room
      pub all_due : batch.records ≢ [] → HasRoomUnlessShort meters0 on_disk (log_of sc k site) batch.short (size_of batch.records)
      all_due recorded =
          let P : List Record → Type 0 = λ l. HasRoomUnlessShort meters0 on_disk l batch.short (size_of batch.records) in
          let N : ℕ → Type 0 = λ n. HasRoomUnlessShort meters0 on_disk (log_of sc h1 site) batch.short n in
          subst P (sym log_second) (subst N body_size (made.due (λ none. recorded (made.records_are ∙ none))))

      -- once the steps are entered
      pub history_stepped : (now : List Mark) → now ≡ marks ++ marks_in k batch.steps.items → entries_of now ≡ stepped sc k site done
      history_stepped now is =
          ap (λ (l : List Mark). entries_of l) is ∙ ap (λ (l : List Entry). entries_of (marks ++ marks_in k l)) same_steps
          ∙ entries_in marks (unnumbered_steps sc k site done) ∙ unnumbered_list sc k site done

      pub note_stepped : (now : List Mark) → now ≡ marks ++ marks_in k batch.steps.items → note_of site now ≡ nothing
      note_stepped now is =
          let mine : List Entry = unnumbered_steps sc k site done in
          let same : steps ≡ mine = sym made.steps_are ∙ same_steps in
          let there : note_of site marks ≡ record { places = 0 + length mine; room = 0 + outs_in mine } =
          note_same q site owns_q played_q marks grew ∙ note_q
          ∙ ap (λ (es : List Entry). let v : Note = record { places = 0 + length es; room = 0 + outs_in es } in v) same in
          ap (λ (l : List Mark). note_of site l) is ∙ ap (λ (l : List Entry). note_of site (marks ++ marks_in k l)) same_steps
          ∙ note_entered site marks mine (unnumbered_own sc k site done) ∙ ap (λ (v : Note). used_all v mine) there ∙ steps_use sc k site done 0 0

      -- what was entered is the fall
      pub history_fallen : (over : List Input) (why : Why) (now : List Mark) → over ≡ done →
          now ≡ marks ++ mark.Entered (numbered_on k (record { owner = site; act = Fall over batch.records why })) ∷ [] → entries_of now ≡ k ++ fall_over sc k site done why ∷ []
      history_fallen over why now is now_is =
          ap (λ (l : List Mark). entries_of l) now_is ∙ entries_append marks (mark.Entered (record { owner = site; act = Fall over batch.records why }) ∷ [])
          ∙ ap (λ (l : List Input). let e : Entry = record { owner = site; act = Fall l batch.records why } in k ++ e ∷ []) is
          ∙ ap (λ (rs : List Record). let e : Entry = record { owner = site; act = Fall done rs why } in k ++ e ∷ []) same_records

      pub note_fallen : (over : List Input) (why : Why) (now : List Mark) → over ≡ done →
          now ≡ marks ++ mark.Entered (numbered_on k (record { owner = site; act = Fall over batch.records why })) ∷ [] →
          note_of site now ≡ nothing
      note_fallen over why now is now_is =
          let e : Entry = record { owner = site; act = Fall over batch.records why } in
          let long : length steps ≡ length over = unnumbered_length sc h1 site done ∙ ap (λ (l : List Input). length l) (sym is) in
          let none : (0 + length steps) - length over ≡ 0 = omega (arith, long) in
          ap (λ (l : List Mark). note_of site l) now_is ∙ entry_uses e marks
          ∙ ap (λ (w : Note). used_by w e.act) (note_same q site owns_q played_q marks grew ∙ note_q)
          ∙ ap (λ (n : ℕ). let w : Note = record { places = n; room = 0 } in w) none

      -- what a pass has seen that put more behind it
      pub seen_on : (now tail : List Mark) → now ≡ marks ++ tail → (more : List Mark) × (now ≡ seen_by p ++ more)
      seen_on now tail is = (
        (seen_b.0 ++ grew.0) ++ tail,
        is ∙ ap (λ (l : List Mark). l ++ tail) (grew.1 ∙ ap (λ (l : List Mark). l ++ grew.0) seen_b.1 ∙ append_assoc (seen_by p) seen_b.0 grew.0)
            ∙ append_assoc (seen_by p) (seen_b.0 ++ grew.0) tail,
      )

      pub turned : (lock : TableId) (r : APass) (tail : List Mark) → seen_by r ≡ marks ++ tail → IsIdle lock r → SameOwners p q → SameOwners q r → IsPlayed (seen_by r) →
          HasTurned lock p r
      turned lock r tail is idle one two now = record {
        idle = idle;
        same = record { owners = two.owners ∙ one.owners; last = two.last ∙ one.last };
        played = now;
        seen = seen_on (seen_by r) tail is;
      }

      -- the site is up behind that
      pub up_second : {D : Type 0} (meaning : Meaning D) (s0 : SiteView) (old : LogState D) (n : ℕ) →
          IsUp meaning sc h site s0 old rose n → is_up_at k site ≡ true
      up_second meaning s0 old n stood =
          let there : IsUp meaning sc k site s0 old rose n = up_meanwhile meaning sc h k site (Up s0 old rose n) all_while stood in there.up

      module _ {D : Type 0} (meaning : Meaning D) (s0 : SiteView) (old new : LogState D) (n0 n : ℕ)
          (stood : IsUp meaning sc h site s0 old rose n0) (begins : first ≡ s0.inputs) where
        pub up_2 : IsUp meaning sc k site s0 old rose n0
        up_2 = up_meanwhile meaning sc h k site (Up s0 old rose n0) all_while stood

        -- the log holds the records of the steps: of none, what it held
        all_logged : (is : List Input) → done ≡ is → (batch.records ≡ [] → (new ≡ old) × (n ≡ n0)) →
            IsLogged meaning site (entries_at k site + 1) (log_of sc k site ++ batch.records) n new →
            IsLogged meaning site (entries_at (stepped sc k site is) site) (log_of sc (stepped sc k site is) site) n new
        all_logged [] none still wrote =
            let same = still (same_records ∙ ap (λ (l : List Input). records_by sc k site l) none) in
            let P : LogState D → Type 0 = λ l. IsLogged meaning site (entries_at k site) (log_of sc k site) n l in
            let Q : ℕ → Type 0 = λ m. IsLogged meaning site (entries_at k site) (log_of sc k site) m old in
            subst P (sym same.0) (subst Q (sym same.1) up_2.logged)
        all_logged (i ∷ is) some still wrote =
            steps_logged meaning sc k site (i ∷ is) batch.records n new (omega arith) (same_records ∙ ap (λ (l : List Input). records_by sc k site l) some) wrote

        pub stepped_stands : LogsAreOrderly → LoggedSitesAreSets → (batch.records ≡ [] → (new ≡ old) × (n ≡ n0)) →
            IsLogged meaning site (entries_at k site + 1) (log_of sc k site ++ batch.records) n new →
            (meaning.meters new.disk).powered ≡ true → (more : List Entry) → more ≡ stepped sc k site done → IsUp meaning sc more site s new rose n
        stepped_stands logs sets still wrote lit more entered =
            let R : List Entry → Type 0 = λ l. IsUp meaning sc l site s new rose n in
            subst R (sym entered) (record {
              up = stepped_up sc k site done up_2.up;
              stands = record {
                alike = stands_same sc (stepped sc h1 site done) (stepped sc k site done) site rose s
                    (stepped_same sc site h1 k done (moves_meanwhile sc h1 k site second_while)) made.stands;
                risen = stood.stands.risen;
                order = log_in_order logs sets sc (stepped sc k site done) site was.given (stepped_legal sc k site done some up_2.up all_2.1 legal_2);
              };
              logged = all_logged done refl still wrote;
              lit = lit;
              inputs =
                  let few : s.inputs ≤ first + length done = made.inputs in
                  let before : s0.inputs ≤ steps_at k site = up_2.inputs in
                  let all : steps_at (stepped sc k site done) site ≡ steps_at k site + length done = stepped_count sc k site done in
                  omega (arith, few, before, all, begins);
            })

        log_while : log_of sc k site ≡ log_of sc h site
        log_while = ap log_by (moves_meanwhile sc h k site all_while)

        -- the steps are its end
        pub steps_end : IfOk answer (λ n. (n ≡ plan.count) × FrameTakes meaning.meters old sc h site inputs plan.count) → LogsAreOrderly → LoggedSitesAreSets → (short : Option Short) → IsShortIf site (log_of sc k site) short →
            (batch.records ≡ [] → (new ≡ old) × (n ≡ n0)) →
            IsLogged meaning site (entries_at k site + 1) (log_of sc k site ++ batch.records) n new →
            (meaning.meters new.disk).powered ≡ true → Takes (calls_for batch.records) (meaning.meters old.disk) (meaning.meters new.disk) → Keeps (meaning.meters old.disk) (meaning.meters new.disk) →
            (batch.records ≢ [] → IsPut meaning.meters old short batch.records new) → (HasRoom meaning.meters old (size_of batch.records) → batch.records ≢ [] → IsBehind old batch.records new) →
            (now : List Mark) → now ≡ marks ++ marks_in k batch.steps.items →
            EndsWith meaning sc h (entries_of now) site inputs (Up s0 old rose n0) (Up s new rose n) answer None
        steps_end told logs sets short is_short still wrote lit takes keeps put room now is =
            let entered : entries_of now ≡ stepped sc k site done = history_stepped now is in
            let T : List Record → Type 0 = λ rs. Takes (calls_for rs) (meaning.meters old.disk) (meaning.meters new.disk) in
            let F : List Record → Type 0 = λ rs. IsOneFrame meaning.meters (log_of sc h site) rs old new in
            let G : List Record → Type 0 = λ l. IsOneFrame meaning.meters l batch.records old new in
            record {
              count = plan.count;
              all = told;
              short = plan.added.short;
              came = (
                record {
                  now = k;
                  meanwhile = all_while;
                  entered = entered;
                  takes = subst T seen_records takes;
                  frame = subst F seen_records (subst G log_while (one_frame meaning.meters site old new (log_of sc k site) batch.records short is_short (λ none. (still none).0) put room));
                },
                stepped_stands logs sets still wrote lit (entries_of now) entered,
              );
              keeps = keeps;
            }

        -- or the fall is
        pub fall_end : IfOk answer (λ n. (n ≡ plan.count) × FrameTakes meaning.meters old sc h site inputs plan.count) → (why : Why) → batch.records ≢ [] →
            (HasRoom meaning.meters old (size_of batch.records) → why ≡ Fault) →
            ((bytes : List ℕ) → meaning.image new.disk bytes → ReadsLeft site (meaning.meters new.disk).capacity (entries_at k site + 1) (log_of sc k site) batch.records n why bytes) →
            IsReason why (log_of sc k site) batch.records (meaning.meters old.disk) (meaning.meters new.disk) → Keeps (meaning.meters old.disk) (meaning.meters new.disk) →
            (over : List Input) → over ≡ done → (now : List Mark) →
            now ≡ marks ++ mark.Entered (numbered_on k (record { owner = site; act = Fall over batch.records why })) ∷ [] →
            EndsWith meaning sc h (entries_of now) site inputs (Up s0 old rose n0) (Up s new rose n) answer (Some why)
        fall_end told why some_records room left reason keeps over over_is now is =
            let entered : entries_of now ≡ k ++ fall_over sc k site done why ∷ [] = history_fallen over why now over_is is in
            let H : List Entry → Type 0 = λ l. DiskTells sc l site (meaning.meters new.disk).capacity n (meaning.image new.disk) in
            let R : List Record → Type 0 = λ rs. IsReason why (log_of sc h site) rs (meaning.meters old.disk) (meaning.meters new.disk) in
            let L : List Record → Type 0 = λ l. IsReason why l batch.records (meaning.meters old.disk) (meaning.meters new.disk) in
            let M : List Record → Type 0 = λ rs. HasRoom meaning.meters old (size_of rs) → why ≡ Fault in
            record {
              count = plan.count;
              all = told;
              short = plan.added.short;
              came = (
                record {
                  now = k;
                  meanwhile = all_while;
                  fell = record { some = λ none. some_records (same_records ∙ none); entered = entered };
                  reason = subst R seen_records (subst L log_while reason);
                  room = subst M seen_records room;
                },
                subst H (sym entered) (fallen_all_tells sc k site (meaning.meters new.disk).capacity done batch.records why n (meaning.image new.disk) same_records left),
              );
              keeps = keeps;
            }
