-- What a batch comes to, step by step: planned, and then entered or fallen over.
use Rattle.std.proofs.Common.{◌≡◌, ◌+◌, ◌≤◌, ◌++◌, ◌∷◌, [], ℕ, zero, suc, true, false, List, length, take, drop, map, refl, sym, subst, ap, ◌∙◌, append-nil, append_assoc, arith}
use Rattle.std.proofs.lemmas.List.{take-append-drop, take-map}
use Rattle.e3_laws.specs.local.Drafts.{MayTakeAll}
use Rattle.e3_laws.specs.local.Least.{AreFirstTo, queue_to}
use Rattle.e3_laws.proofs.local.Queues.{front_is_least}
use Rattle.e3_node.specs.Batches.{fall_over, unnumbered_steps}
use Rattle.e3_node.specs.Bodies.{DiskTells, ReadsTold, entries_at}
use Rattle.e3_node.specs.Several.{MayEnterAll, claims_for}
use Rattle.e3_node.specs.Turns.{Meanwhile}
use Rattle.e3_site.specs.SiteView.{SiteView}
use Rattle.e3_site.specs.StandsAlike.{StandsAlike}
use Rattle.e3_site.proofs.Alike.{still}
use Rattle.e3_types.specs.declared.entries.Entry.{Entry}
use Rattle.e3_types.specs.declared.entries.Input.{Input}
use Rattle.e3_types.specs.declared.entries.Input.TheVariants as input
use Rattle.e3_types.specs.declared.entries.Why.{Why}
use Rattle.e3_types.specs.declared.messages.Packet.{Packet}
use Rattle.e3_types.specs.declared.records.Record.{Record}
use Rattle.e3_types.specs.declared.scenarios.Scenario.{Scenario}
use Rattle.e3_wire.specs.Marks.{AreFew, AreForeign, entries_of, note_of, scenario_of}
use Rattle.e3_wire.specs.Wires.{IsPlayed, TakesInTurn}
use Rattle.e3_wire.specs.declared.marks.Mark.{Mark}
use Rattle.e3_wire.specs.declared.marks.Mark.TheVariants as mark
use Rattle.e3_wire.specs.declared.marks.Note.{Note}
use Rattle.e3_wire.proofs.Foreign.{notes_stay}
use Rattle.e3_wire.proofs.Rooms.{few_back, few_front}
use Rattle.e3_world.specs.Given.{IsGiven}
use Rattle.e3_world.specs.Items.{is_up_at}
use Rattle.e3_world.specs.Legal.{AreDue, IsLegal, entry_of, records_by}
use Rattle.e3_world.specs.Moves.{Move, Past, left_by, log_of, moves_of, unnumbered_input}
use Rattle.e3_world.specs.Packets.{is_calm, lines, present_items, step_items}
use Rattle.e3_laws.proofs.local.Alike.{all_on}
use Rattle.e3_laws.proofs.local.Laws.{legal_behind}
use Rattle.e3_node.proofs.Batches.{unnumbered_same}
use Rattle.e3_node.proofs.Bundles.{due_on_all, first_on, may_enter_all, unnumbered_own}
use Rattle.e3_node.specs.site_log.Bodies.{ReadsLeft}
use Rattle.e3_node.proofs.Left.{left_tells}
use Rattle.e3_node.proofs.Pasts.{entries_on, past_on}
use Rattle.e3_node.proofs.Several.{note_claimed, outs_in}
use Rattle.e3_node.proofs.Waiting.{both_others, both_sites, moves_stay}

-- the first of some inputs
first_packets : (sc : Scenario) (h : List Entry) (site n : ℕ) (inputs : List Input) → AreFirstTo sc h site inputs → AreFirstTo sc h site (take n inputs)
first_packets sc h site n inputs first = record {
  packets = take n first.packets;
  rest = drop n first.packets ++ first.rest;
  deliver = ap (take n) first.deliver ∙ take-map input.Deliver n first.packets;
  first =
      first.first ∙ ap (λ (l : List Packet). l ++ first.rest) (sym (take-append-drop n first.packets))
      ∙ append_assoc (take n first.packets) (drop n first.packets) first.rest;
}

pub first_of_all : (sc : Scenario) (h : List Entry) (site n : ℕ) (inputs : List Input) → AreFirstTo sc h site inputs → AreFirstTo sc h site (take n inputs)
first_of_all sc h site n inputs first = first_packets sc h site n inputs first

pub may_take_front : (sc : Scenario) (h : List Entry) (site n : ℕ) (inputs : List Input) → MayTakeAll sc h site inputs → MayTakeAll sc h site (take n inputs)
may_take_front sc h site zero inputs may = tt
may_take_front sc h site (suc n) [] may = tt
may_take_front sc h site (suc n) (i ∷ inputs) may = (may.0, may_take_front sc (h ++ entry_of sc h site i ∷ []) site n inputs may.1)

-- packets that are the first to the site may be taken one after the other
pub first_turn : (sc : Scenario) (h : List Entry) (site : ℕ) (inputs : List Input) → AreFirstTo sc h site inputs → TakesInTurn sc h site inputs
first_turn sc h site [] first = tt
first_turn sc h site (i ∷ []) first = one first.packets first.deliver first.first
  where
    one : (ps : List Packet) → i ∷ [] ≡ map input.Deliver ps → queue_to sc h site ≡ ps ++ first.rest → TakesInTurn sc h site (i ∷ [])
    one [] is queue = absurd cc
    one (p ∷ ps) is queue =
        let same : i ≡ input.Deliver p = cc in
        let P : Input → Type 0 = λ x. TakesInTurn sc h site (x ∷ []) in
        subst P (sym same) (front_is_least sc h site p (ps ++ first.rest) queue)
first_turn sc h site (i ∷ j ∷ inputs) first = first

-- others go on, and go on again
pub meanwhile_then : (site : ℕ) (a b c : List Entry) → Meanwhile site a b → Meanwhile site b c → Meanwhile site a c
meanwhile_then site a b c one two = record {
  others = one.others ++ two.others;
  of_others = both_others site one.others two.others one.of_others two.of_others;
  of_sites = both_sites one.others two.others one.of_sites two.of_sites;
  is = two.is ∙ ap (λ (l : List Entry). l ++ two.others) one.is ∙ append_assoc a one.others two.others;
}

pub moves_meanwhile : (sc : Scenario) (h now : List Entry) (site : ℕ) → Meanwhile site h now → moves_of sc now site ≡ moves_of sc h site
moves_meanwhile sc h now site m = ap (λ (l : List Entry). moves_of sc l site) m.is ∙ moves_stay sc site h m.others m.of_others

-- a site stands where its moves are the same
pub stands_same : (sc : Scenario) (h k : List Entry) (site : ℕ) (rose : List Record) (s : SiteView) → moves_of sc k site ≡ moves_of sc h site → StandsAlike sc h site rose s →
    StandsAlike sc k site rose s
stands_same sc h k site rose s same was = still sc h k site rose s s was (sym same) refl refl was.stands

-- what was due stays due meanwhile
pub due_meanwhile : (sc : Scenario) (h now : List Entry) (site : ℕ) (inputs : List Input) → IsGiven sc → IsLegal sc now → Meanwhile site h now →
    is_calm (present_items sc h) ≡ false → AreFirstTo sc h site inputs → AreDue sc h site inputs →
    AreFirstTo sc now site inputs × AreDue sc now site inputs × (is_calm (present_items sc now) ≡ false)
due_meanwhile sc h now site inputs given legal m calm first due =
    let there : IsLegal sc (h ++ m.others) = (let P : List Entry → Type 0 = λ l. IsLegal sc l in subst P m.is legal) in
    let P : List Entry → Type 0 = λ l. AreFirstTo sc l site inputs × AreDue sc l site inputs × (is_calm (present_items sc l) ≡ false) in
    let line : lines (h ++ m.others) ≡ lines h = (all_on sc site h m.others given (legal_behind sc [] h m.others there) m.of_others).line in
    subst P (sym m.is) (
      first_on sc h m.others site inputs there m.of_others m.of_sites first,
      due_on_all sc h m.others site inputs given there m.of_others m.of_sites calm first due,
      ap (λ (n : ℕ). is_calm (step_items sc n)) line ∙ calm,
    )

-- marks that are played begin with their scenario
pub record Begins (marks : List Mark) : Type 0 where
  pub most : ℕ
  pub more : List Mark
  pub is : marks ≡ mark.Start (scenario_of marks) most ∷ more

pub begins : (marks : List Mark) → IsPlayed marks → Begins marks
begins (mark.Start sc most ∷ more) played = record { most = most; more = more; is = refl }
begins [] played = absurd (let some = played.given.some in omega (arith, some))
begins (mark.Entered e ∷ more) played = absurd (let some = played.given.some in omega (arith, some))
begins (mark.Place o outs ∷ more) played = absurd (let some = played.given.some in omega (arith, some))
begins (mark.Freed o ∷ more) played = absurd (let some = played.given.some in omega (arith, some))

-- steps whose places were claimed may be entered behind what others put since
module _ (sc : Scenario) (h : List Entry) (site first : ℕ) (done : List Input) (p r : ℕ) (marks second now : List Mark) where
  pub may_all : IsPlayed now → now ≡ (marks ++ claims_for (unnumbered_steps sc h site done)) ++ second → AreForeign site second →
      scenario_of now ≡ sc → (k : List Entry) → entries_of now ≡ k → Meanwhile site h k → 1 ≤ site → site ≤ length sc.weights → is_up_at k site ≡ true →
      AreFirstTo sc k site done → AreDue sc k site done → note_of site marks ≡ record { places = p; room = r } →
      MayEnterAll now (unnumbered_steps sc h site done)
  may_all played is foreign keys k entries m one exists up firsts due note =
      let steps : List Entry = unnumbered_steps sc h site done in
      let same : unnumbered_steps sc k site done ≡ steps = unnumbered_same sc site h k done (moves_meanwhile sc h k site m) in
      let b : Begins now = begins now played in
      let start : now ≡ mark.Start sc b.most ∷ b.more = b.is ∙ ap (λ (s : Scenario). mark.Start s b.most ∷ b.more) keys in
      let noted : note_of site now ≡ record { places = p + length steps; room = r + outs_in steps } =
      ap (note_of site) is ∙ notes_stay site (marks ++ claims_for steps) second foreign ∙ note_claimed site marks steps (unnumbered_own sc h site done)
      ∙ ap (λ (w : Note). let v : Note = record { places = w.places + length steps; room = w.room + outs_in steps } in v) note in
      let packets : List Packet = firsts.packets in
      let deliver : done ≡ map input.Deliver packets = firsts.deliver in
      let P : List Mark → Type 0 = λ l. MayEnterAll l steps in
      let Q : List Entry → Type 0 = λ es. MayEnterAll (mark.Start sc b.most ∷ b.more) es in
      let R : List Input → Type 0 = λ l. MayEnterAll (mark.Start sc b.most ∷ b.more) (unnumbered_steps sc k site l) in
      let D : List Input → Type 0 = λ l. AreDue sc k site l in
      let N : List Input → Type 0 = λ l. note_of site (mark.Start sc b.most ∷ b.more) ≡ record { places = p + length (unnumbered_steps sc k site l); room = r + outs_in (unnumbered_steps sc k site l) } in
      let S : List Entry → Type 0 = λ es. note_of site (mark.Start sc b.most ∷ b.more) ≡ record { places = p + length es; room = r + outs_in es } in
      let F : List Input → Type 0 = λ l. AreFew (claims_for (unnumbered_steps sc k site l)) in
      let G : List Entry → Type 0 = λ es. AreFew (claims_for es) in
      let H : List Mark → Type 0 = λ l. AreFew l in
      let few : AreFew (claims_for steps) = few_back marks (claims_for steps) (few_front (marks ++ claims_for steps) second (subst H is played.promises)) in
      subst P (sym start) (subst Q same (subst R (sym deliver)
      (may_enter_all sc b.most b.more k site packets firsts.rest p r (ap entries_of (sym start) ∙ entries)
      (let L : Scenario → Type 0 = λ s. IsLegal s k in let M : List Entry → Type 0 = λ l. IsLegal (scenario_of now) l in subst L keys (subst M entries played.legal))
      one exists up (subst D deliver due) firsts.first (subst N deliver (subst S (sym same) (ap (note_of site) (sym start) ∙ noted))) (subst F deliver (subst G (sym same) few)))))

-- the disk of a site that fell over several inputs
pub fallen_all_tells : (sc : Scenario) (h : List Entry) (site capacity : ℕ) (inputs : List Input) (records : List Record) (why : Why) (logged : ℕ) (image : List ℕ → Type 0) →
    records ≡ records_by sc h site inputs →
    ((bytes : List ℕ) → image bytes → ReadsLeft site capacity (entries_at h site + 1) (log_of sc h site) records logged why bytes) →
    DiskTells sc (h ++ fall_over sc h site inputs why ∷ []) site capacity logged image
fallen_all_tells sc h site capacity inputs records why logged image made left = λ bytes at.
    let e : Entry = fall_over sc h site inputs why in
    let unnumbered : List Input = map unnumbered_input inputs in
    let n : ℕ = entries_at h site + 1 in
    let P : Past → Type 0 = λ p. ReadsTold site capacity (entries_at (h ++ e ∷ []) site) logged p.moves p.tail bytes in
    let M : ℕ → Type 0 = λ m. ReadsTold site capacity m logged (moves_of sc h site ++ []) (left_by why unnumbered (records_by sc h site inputs)) bytes in
    let Q : List Move → Type 0 = λ ms. ReadsTold site capacity n logged ms (left_by why unnumbered (records_by sc h site inputs)) bytes in
    let R : List Record → Type 0 = λ rs. ReadsTold site capacity n logged (moves_of sc h site) (left_by why unnumbered rs) bytes in
    subst P (sym (past_on sc h site e refl)) (subst M (sym (entries_on h site e refl)) (subst Q (sym (append-nil (moves_of sc h site)))
    (subst R made (left_tells site capacity n logged (moves_of sc h site) why unnumbered records bytes (left bytes at)))))
