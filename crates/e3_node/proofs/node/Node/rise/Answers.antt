use Rattle.std.proofs.Common.{◌≡◌, ◌≤◌, ◌++◌, ℕ, ◌∙◌, ap, append-nil, inl, inr, length, subst, sym, false, List}
use Rattle.e3_node.specs.NodeStands.{IsFallen}
use Rattle.e3_node.specs.NodeView.{NodeView, disk_of, is_up_in}
use Rattle.e3_node.specs.Rising.{IsAllowed, IsWish, MayRise, RiseMakes, RiseIsEntered, RiseTakes, entered_by}
use Rattle.e3_types.specs.declared.entries.Entry.{Entry}
use Rattle.e3_wire.specs.Marks.{entries_of, last_owner, scenario_of}
use Rattle.e3_world.specs.Items.{is_up_at}
use Rattle.e3_node.proofs.Counts.{one_more_entry}
use Rattle.e3_node.proofs.Keeping.{told_in}
use Rattle.e3_node.proofs.Risen.{allowed_of, failed_told, may_rise, missed_told, missed_entered, never_foreign_made, never_full, never_up, node_risen, rose_told, spared_entered, spared_told}
use Rattle.e3_node.proofs.node.Node.rise.Goals as goal

pub claim_rise-requires-clause-exists : goal.claim_rise-requires-clause-exists
claim_rise-requires-clause-exists g c =
    subst (λ (x : NodeView _). x.site ≤ last_owner c.args.shared.now) (sym c.self.view_is) c.requires.standing.exists

pub replace_with-raised-requires : goal.replace_with-raised-requires
replace_with-raised-requires g c =
    let v = c.args.shared.now in
    let sc = scenario_of v in
    let h = entries_of v in
    let node = c.args.self.now in
    let wish = c.in_ok-wish.wish in
    let down : is_up_at h node.site ≡ false = sym (c.if-is_up.ensures.stands sc h c.requires.standing) in
    let is : IsWish node.site node.weights node.rows wish = subst (λ (x : NodeView _). IsWish x.site x.weights x.rows wish) c.self.view_is c.in_ok-wish.ensures.wish in
    let may : MayRise sc h wish = may_rise g.D.Disk.meaning v node wish c.requires.shared c.requires.standing (c.requires.turn down) is in
    let stands = told_in g.D.Disk.meaning sc h node.site node.state c.requires.standing.state in
    let here : IsFallen g.D.Disk.meaning sc h wish.site node.state = subst (λ (n : ℕ). IsFallen g.D.Disk.meaning sc h n node.state) (sym is.site_is) stands in
    let inside : IsFallen g.D.Disk.meaning sc h wish.site c.self.inside.state =
    subst (λ (x : NodeView _). IsFallen g.D.Disk.meaning sc h wish.site x.state) (sym c.self.view_is) here in
    let few = one_more_entry v (length h) c.requires.shared.played (λ all. (let full = c.in_ok-wish.ensures.full.1 all in cc)) in (
      ap (λ (x : NodeView _). is_up_in x.state) c.self.view_is ∙ sym c.if-is_up.ensures.is,
      record { scenario = sc; history = h; may = may; tells = inside; few = few },
    )

pub enter_rise-requires-clause-allowed : goal.enter_rise-requires-clause-allowed
enter_rise-requires-clause-allowed g c =
    let v = c.args.shared.now in
    let sc = scenario_of v in
    let h = entries_of v in
    let node = c.args.self.now in
    let wish = c.in_ok-wish.wish in
    let r = c.replace_with-raised.result in
    let state = c.replace_with-raised.new.dest in
    let down : is_up_at h node.site ≡ false = sym (c.if-is_up.ensures.stands sc h c.requires.standing) in
    let is : IsWish node.site node.weights node.rows wish = subst (λ (x : NodeView _). IsWish x.site x.weights x.rows wish) c.self.view_is c.in_ok-wish.ensures.wish in
    let may : MayRise sc h wish = may_rise g.D.Disk.meaning v node wish c.requires.shared c.requires.standing (c.requires.turn down) is in
    let stands = told_in g.D.Disk.meaning sc h node.site node.state c.requires.standing.state in
    let here : IsFallen g.D.Disk.meaning sc h wish.site node.state = subst (λ (n : ℕ). IsFallen g.D.Disk.meaning sc h n node.state) (sym is.site_is) stands in
    let inside : IsFallen g.D.Disk.meaning sc h wish.site c.self.inside.state =
    subst (λ (x : NodeView _). IsFallen g.D.Disk.meaning sc h wish.site x.state) (sym c.self.view_is) here in
    let made : RiseMakes g.D.Disk.meaning sc h node.site (disk_of node.state) state r =
    subst (λ (n : ℕ). RiseMakes g.D.Disk.meaning sc h n (disk_of node.state) state r) is.site_is
    (subst (λ (x : NodeView _). RiseMakes g.D.Disk.meaning sc h wish.site (disk_of x.state) state r) c.self.view_is
    (c.replace_with-raised.ensures.0 sc h may inside)) in
    let allowed : IsAllowed sc h node.site r = allowed_of g.D.Disk.meaning sc h node.site (disk_of node.state) state r (c.requires.turn down) made in
    (v, c.in_ok-wish.ensures.claimed, subst (λ (x : NodeView _). IsAllowed sc h x.site r) (sym c.self.view_is) allowed)

pub told-requires : goal.told-requires
told-requires g c =
    let v = c.args.shared.now in
    let sc = scenario_of v in
    let h = entries_of v in
    let node = c.args.self.now in
    let wish = c.in_ok-wish.wish in
    let r = c.replace_with-raised.result in
    let state = c.replace_with-raised.new.dest in
    let down : is_up_at h node.site ≡ false = sym (c.if-is_up.ensures.stands sc h c.requires.standing) in
    let is : IsWish node.site node.weights node.rows wish = subst (λ (x : NodeView _). IsWish x.site x.weights x.rows wish) c.self.view_is c.in_ok-wish.ensures.wish in
    let may : MayRise sc h wish = may_rise g.D.Disk.meaning v node wish c.requires.shared c.requires.standing (c.requires.turn down) is in
    let stands = told_in g.D.Disk.meaning sc h node.site node.state c.requires.standing.state in
    let here : IsFallen g.D.Disk.meaning sc h wish.site node.state = subst (λ (n : ℕ). IsFallen g.D.Disk.meaning sc h n node.state) (sym is.site_is) stands in
    let inside : IsFallen g.D.Disk.meaning sc h wish.site c.self.inside.state =
    subst (λ (x : NodeView _). IsFallen g.D.Disk.meaning sc h wish.site x.state) (sym c.self.view_is) here in
    let made : RiseMakes g.D.Disk.meaning sc h node.site (disk_of node.state) state r =
    subst (λ (n : ℕ). RiseMakes g.D.Disk.meaning sc h n (disk_of node.state) state r) is.site_is
    (subst (λ (x : NodeView _). RiseMakes g.D.Disk.meaning sc h wish.site (disk_of x.state) state r) c.self.view_is
    (c.replace_with-raised.ensures.0 sc h may inside)) in
    record { not_foreign = never_foreign_made g.D.Disk.meaning sc h node.site (disk_of node.state) state r made }

pub returns-clause-stands : goal.returns-clause-stands
returns-clause-stands g c =
    let v = c.args.shared.now in
    let sc = scenario_of v in
    let h = entries_of v in
    let node = c.args.self.now in
    let wish = c.in_ok-wish.wish in
    let r = c.replace_with-raised.result in
    let state = c.replace_with-raised.new.dest in
    let down : is_up_at h node.site ≡ false = sym (c.if-is_up.ensures.stands sc h c.requires.standing) in
    let is : IsWish node.site node.weights node.rows wish = subst (λ (x : NodeView _). IsWish x.site x.weights x.rows wish) c.self.view_is c.in_ok-wish.ensures.wish in
    let may : MayRise sc h wish = may_rise g.D.Disk.meaning v node wish c.requires.shared c.requires.standing (c.requires.turn down) is in
    let stands = told_in g.D.Disk.meaning sc h node.site node.state c.requires.standing.state in
    let here : IsFallen g.D.Disk.meaning sc h wish.site node.state = subst (λ (n : ℕ). IsFallen g.D.Disk.meaning sc h n node.state) (sym is.site_is) stands in
    let inside : IsFallen g.D.Disk.meaning sc h wish.site c.self.inside.state =
    subst (λ (x : NodeView _). IsFallen g.D.Disk.meaning sc h wish.site x.state) (sym c.self.view_is) here in
    let made : RiseMakes g.D.Disk.meaning sc h node.site (disk_of node.state) state r =
    subst (λ (n : ℕ). RiseMakes g.D.Disk.meaning sc h n (disk_of node.state) state r) is.site_is
    (subst (λ (x : NodeView _). RiseMakes g.D.Disk.meaning sc h wish.site (disk_of x.state) state r) c.self.view_is
    (c.replace_with-raised.ensures.0 sc h may inside)) in
    let has : RiseIsEntered c.self.inside.site r v c.enter_rise.new.shared = c.enter_rise.ensures.entered v c.in_ok-wish.ensures.claimed in
    let entered : entries_of c.enter_rise.new.shared ≡ h ++ entered_by node.site r = has.entries ∙ ap (λ (x : NodeView _). h ++ entered_by x.site r) c.self.view_is in
    node_risen g.D.Disk.meaning sc (scenario_of c.enter_rise.new.shared) h (entries_of c.enter_rise.new.shared) node _ state r
    c.requires.standing down made has.on.scenario entered
    (ap (λ (x : NodeView _). let n : NodeView _ = record { site = x.site; weights = x.weights; rows = x.rows; state = state } in n) c.self.view_is)

pub returns-clause-rose : goal.returns-clause-rose
returns-clause-rose g c =
    let v = c.args.shared.now in
    let sc = scenario_of v in
    let h = entries_of v in
    let node = c.args.self.now in
    let wish = c.in_ok-wish.wish in
    let r = c.replace_with-raised.result in
    let state = c.replace_with-raised.new.dest in
    let down : is_up_at h node.site ≡ false = sym (c.if-is_up.ensures.stands sc h c.requires.standing) in
    let is : IsWish node.site node.weights node.rows wish = subst (λ (x : NodeView _). IsWish x.site x.weights x.rows wish) c.self.view_is c.in_ok-wish.ensures.wish in
    let may : MayRise sc h wish = may_rise g.D.Disk.meaning v node wish c.requires.shared c.requires.standing (c.requires.turn down) is in
    let stands = told_in g.D.Disk.meaning sc h node.site node.state c.requires.standing.state in
    let here : IsFallen g.D.Disk.meaning sc h wish.site node.state = subst (λ (n : ℕ). IsFallen g.D.Disk.meaning sc h n node.state) (sym is.site_is) stands in
    let inside : IsFallen g.D.Disk.meaning sc h wish.site c.self.inside.state =
    subst (λ (x : NodeView _). IsFallen g.D.Disk.meaning sc h wish.site x.state) (sym c.self.view_is) here in
    let made : RiseMakes g.D.Disk.meaning sc h node.site (disk_of node.state) state r =
    subst (λ (n : ℕ). RiseMakes g.D.Disk.meaning sc h n (disk_of node.state) state r) is.site_is
    (subst (λ (x : NodeView _). RiseMakes g.D.Disk.meaning sc h wish.site (disk_of x.state) state r) c.self.view_is
    (c.replace_with-raised.ensures.0 sc h may inside)) in
    let has : RiseIsEntered c.self.inside.site r v c.enter_rise.new.shared = c.enter_rise.ensures.entered v c.in_ok-wish.ensures.claimed in
    let entered : entries_of c.enter_rise.new.shared ≡ h ++ entered_by node.site r = has.entries ∙ ap (λ (x : NodeView _). h ++ entered_by x.site r) c.self.view_is in
    rose_told g.D.Disk.meaning sc h (entries_of c.enter_rise.new.shared) node.site (disk_of node.state) state r c.told.result
    c.logs_are_orderly.ensures.tails may.given may.legal made entered c.told.ensures

pub returns-clause-failed : goal.returns-clause-failed
returns-clause-failed g c =
    let v = c.args.shared.now in
    let sc = scenario_of v in
    let h = entries_of v in
    let node = c.args.self.now in
    let wish = c.in_ok-wish.wish in
    let r = c.replace_with-raised.result in
    let state = c.replace_with-raised.new.dest in
    let down : is_up_at h node.site ≡ false = sym (c.if-is_up.ensures.stands sc h c.requires.standing) in
    let is : IsWish node.site node.weights node.rows wish = subst (λ (x : NodeView _). IsWish x.site x.weights x.rows wish) c.self.view_is c.in_ok-wish.ensures.wish in
    let may : MayRise sc h wish = may_rise g.D.Disk.meaning v node wish c.requires.shared c.requires.standing (c.requires.turn down) is in
    let stands = told_in g.D.Disk.meaning sc h node.site node.state c.requires.standing.state in
    let here : IsFallen g.D.Disk.meaning sc h wish.site node.state = subst (λ (n : ℕ). IsFallen g.D.Disk.meaning sc h n node.state) (sym is.site_is) stands in
    let inside : IsFallen g.D.Disk.meaning sc h wish.site c.self.inside.state =
    subst (λ (x : NodeView _). IsFallen g.D.Disk.meaning sc h wish.site x.state) (sym c.self.view_is) here in
    let made : RiseMakes g.D.Disk.meaning sc h node.site (disk_of node.state) state r =
    subst (λ (n : ℕ). RiseMakes g.D.Disk.meaning sc h n (disk_of node.state) state r) is.site_is
    (subst (λ (x : NodeView _). RiseMakes g.D.Disk.meaning sc h wish.site (disk_of x.state) state r) c.self.view_is
    (c.replace_with-raised.ensures.0 sc h may inside)) in
    let has : RiseIsEntered c.self.inside.site r v c.enter_rise.new.shared = c.enter_rise.ensures.entered v c.in_ok-wish.ensures.claimed in
    let entered : entries_of c.enter_rise.new.shared ≡ h ++ entered_by node.site r = has.entries ∙ ap (λ (x : NodeView _). h ++ entered_by x.site r) c.self.view_is in
    λ why told. failed_told g.D.Disk.meaning sc h (entries_of c.enter_rise.new.shared) node.site (disk_of node.state) state r
    c.logs_are_orderly.ensures.tails may.given may.legal made entered why (sym c.told.ensures ∙ told)

pub returns-clause-cause : goal.returns-clause-cause
returns-clause-cause g c =
    let v = c.args.shared.now in
    let sc = scenario_of v in
    let h = entries_of v in
    let node = c.args.self.now in
    let wish = c.in_ok-wish.wish in
    let r = c.replace_with-raised.result in
    let state = c.replace_with-raised.new.dest in
    let down : is_up_at h node.site ≡ false = sym (c.if-is_up.ensures.stands sc h c.requires.standing) in
    let is : IsWish node.site node.weights node.rows wish = subst (λ (x : NodeView _). IsWish x.site x.weights x.rows wish) c.self.view_is c.in_ok-wish.ensures.wish in
    let may : MayRise sc h wish = may_rise g.D.Disk.meaning v node wish c.requires.shared c.requires.standing (c.requires.turn down) is in
    let stands = told_in g.D.Disk.meaning sc h node.site node.state c.requires.standing.state in
    let here : IsFallen g.D.Disk.meaning sc h wish.site node.state = subst (λ (n : ℕ). IsFallen g.D.Disk.meaning sc h n node.state) (sym is.site_is) stands in
    let inside : IsFallen g.D.Disk.meaning sc h wish.site c.self.inside.state =
    subst (λ (x : NodeView _). IsFallen g.D.Disk.meaning sc h wish.site x.state) (sym c.self.view_is) here in
    let made : RiseMakes g.D.Disk.meaning sc h node.site (disk_of node.state) state r =
    subst (λ (n : ℕ). RiseMakes g.D.Disk.meaning sc h n (disk_of node.state) state r) is.site_is
    (subst (λ (x : NodeView _). RiseMakes g.D.Disk.meaning sc h wish.site (disk_of x.state) state r) c.self.view_is
    (c.replace_with-raised.ensures.0 sc h may inside)) in
    λ told. missed_told g.D.Disk.meaning sc h node.site (disk_of node.state) state r made (sym c.told.ensures ∙ told)

pub returns-clause-spares : goal.returns-clause-spares
returns-clause-spares g c =
    let v = c.args.shared.now in
    let sc = scenario_of v in
    let h = entries_of v in
    let node = c.args.self.now in
    let wish = c.in_ok-wish.wish in
    let r = c.replace_with-raised.result in
    let state = c.replace_with-raised.new.dest in
    let down : is_up_at h node.site ≡ false = sym (c.if-is_up.ensures.stands sc h c.requires.standing) in
    let is : IsWish node.site node.weights node.rows wish = subst (λ (x : NodeView _). IsWish x.site x.weights x.rows wish) c.self.view_is c.in_ok-wish.ensures.wish in
    let may : MayRise sc h wish = may_rise g.D.Disk.meaning v node wish c.requires.shared c.requires.standing (c.requires.turn down) is in
    let stands = told_in g.D.Disk.meaning sc h node.site node.state c.requires.standing.state in
    let here : IsFallen g.D.Disk.meaning sc h wish.site node.state = subst (λ (n : ℕ). IsFallen g.D.Disk.meaning sc h n node.state) (sym is.site_is) stands in
    let inside : IsFallen g.D.Disk.meaning sc h wish.site c.self.inside.state =
    subst (λ (x : NodeView _). IsFallen g.D.Disk.meaning sc h wish.site x.state) (sym c.self.view_is) here in
    let made : RiseMakes g.D.Disk.meaning sc h node.site (disk_of node.state) state r =
    subst (λ (n : ℕ). RiseMakes g.D.Disk.meaning sc h n (disk_of node.state) state r) is.site_is
    (subst (λ (x : NodeView _). RiseMakes g.D.Disk.meaning sc h wish.site (disk_of x.state) state r) c.self.view_is
    (c.replace_with-raised.ensures.0 sc h may inside)) in
    let takes : RiseTakes 5 r (g.D.Disk.meaning.meters (disk_of node.state)) (g.D.Disk.meaning.meters (disk_of state)) =
    subst (λ (x : NodeView _). RiseTakes 5 r (g.D.Disk.meaning.meters (disk_of x.state)) (g.D.Disk.meaning.meters (disk_of state))) c.self.view_is c.replace_with-raised.ensures.1.1 in
    λ told. spared_told g.D.Disk.meaning sc h node.site (disk_of node.state) state r made takes (sym c.told.ensures ∙ told)

pub returns-clause-shared : goal.returns-clause-shared
returns-clause-shared g c = (c.enter_rise.ensures.entered c.args.shared.now c.in_ok-wish.ensures.claimed).on

pub returns-clause-up : goal.returns-clause-up
returns-clause-up g c =
    let v = c.args.shared.now in
    let down : is_up_at (entries_of v) c.args.self.now.site ≡ false = sym (c.if-is_up.ensures.stands (scenario_of v) (entries_of v) c.requires.standing) in
    (λ is. absurd (never_up c.replace_with-raised.result (sym c.told.ensures ∙ is)), λ yes. absurd (let both = sym down ∙ yes in cc))

pub returns-clause-full : goal.returns-clause-full
returns-clause-full g c = λ down.
    (λ is. absurd (never_full c.replace_with-raised.result (sym c.told.ensures ∙ is)), λ all. absurd (let full = c.in_ok-wish.ensures.full.1 all in cc))

pub returns-clause-kept : goal.returns-clause-kept
returns-clause-kept g c = λ either. elim either [
  | inl is ↦ absurd (never_up c.replace_with-raised.result (sym c.told.ensures ∙ is))
  | inr is ↦ absurd (never_full c.replace_with-raised.result (sym c.told.ensures ∙ is))
]

pub returns-clause-missed : goal.returns-clause-missed
returns-clause-missed g c =
    let v = c.args.shared.now in
    let h = entries_of v in
    let node = c.args.self.now in
    let r = c.replace_with-raised.result in
    let has : RiseIsEntered c.self.inside.site r v c.enter_rise.new.shared = c.enter_rise.ensures.entered v c.in_ok-wish.ensures.claimed in
    let entered : entries_of c.enter_rise.new.shared ≡ h ++ entered_by node.site r = has.entries ∙ ap (λ (x : NodeView _). h ++ entered_by x.site r) c.self.view_is in
    λ told. entered ∙ ap (λ (l : List Entry). h ++ l) (missed_entered node.site r (sym c.told.ensures ∙ told))

pub returns-clause-no_memory : goal.returns-clause-no_memory
returns-clause-no_memory g c =
    let v = c.args.shared.now in
    let h = entries_of v in
    let node = c.args.self.now in
    let r = c.replace_with-raised.result in
    let has : RiseIsEntered c.self.inside.site r v c.enter_rise.new.shared = c.enter_rise.ensures.entered v c.in_ok-wish.ensures.claimed in
    let entered : entries_of c.enter_rise.new.shared ≡ h ++ entered_by node.site r = has.entries ∙ ap (λ (x : NodeView _). h ++ entered_by x.site r) c.self.view_is in
    λ told. entered ∙ ap (λ (l : List Entry). h ++ l) (spared_entered node.site r (sym c.told.ensures ∙ told)) ∙ append-nil h
