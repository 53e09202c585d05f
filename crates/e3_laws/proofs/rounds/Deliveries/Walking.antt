-- How a round goes on: while its packets are pending to members that stay up, the next entry is the delivery of the first.
use Rattle.std.proofs.Common.{◌≡◌, ◌==◌, ℕ, zero, suc, Bool, true, false, List, [], ◌∷◌, ◌++◌, append-nil, append_assoc, ◌∙◌, ap, sym, subst, refl, eq-eqb, arith, count_by, ◌+◌}
use Rattle.std.specs.List.{list_any}
use Rattle.std.proofs.lemmas.Grind.{fold-append}
use Rattle.e3_types.specs.declared.entries.Act.{Act}
use Rattle.e3_types.specs.declared.entries.Act.TheVariants.{Step, Fall, Rise, RiseFall, Miss, Cut, Drop, Parts, Line}
use Rattle.e3_types.specs.declared.entries.Entry.{Entry}
use Rattle.e3_types.specs.declared.entries.Input.TheVariants as input
use Rattle.e3_types.specs.declared.messages.Packet.{Packet}
use Rattle.e3_types.specs.declared.scenarios.Item.{Item}
use Rattle.e3_types.specs.declared.scenarios.Item.TheVariants as item
use Rattle.e3_types.specs.declared.scenarios.Scenario.{Scenario}
use Rattle.e3_types.specs.Sets.{has_site}
use Rattle.e3_world.specs.Fate.{same_part}
use Rattle.e3_world.specs.Given.{IsGiven}
use Rattle.e3_world.specs.Items.{is_up_at}
use Rattle.e3_world.specs.Legal.{Guard, LegalAfter, entry_of}
use Rattle.e3_world.specs.Packets.{is_line, lines, parts_of, pending, present_items, step_items}
use Rattle.e3_world.specs.Progress.{up_behind}
use Rattle.e3_world.proofs.Guards.{lines_push}
use Rattle.e3_world.proofs.Readings.{up_other, up_same}
use Rattle.e3_laws.specs.rounds.Queues.{IsQueue, falls}
use Rattle.e3_laws.proofs.rounds.Deliveries.Forced.{Here, due_owner, next_delivery, never_rises}
use Rattle.e3_laws.proofs.rounds.Deliveries.Queue.{queue_is_pending}
use Rattle.std.proofs.lemmas.Bool.{or_parts}

-- what is still to come of a round of these members in a recover step: no line comes, at the end nothing is pending, and all
-- members are up
pub record Rest (sc : Scenario) (members : List ℕ) (h more : List Entry) : Type 0 where
  pub given : IsGiven sc
  pub group : List ℕ
  pub items : List Item
  pub recovers : present_items sc h ≡ item.Recover group ∷ items
  pub together : (s u : ℕ) → has_site members s ≡ true → has_site members u ≡ true → same_part (parts_of sc h) s u ≡ true
  pub guards : LegalAfter sc h more
  pub no_line : list_any is_line more ≡ false
  pub ended : pending sc (h ++ more) ≡ []
  pub up : (s : ℕ) → has_site members s ≡ true → is_up_at (h ++ more) s ≡ true

-- a step goes on
pub items_on : (sc : Scenario) (h : List Entry) (e : Entry) → is_line e ≡ false → present_items sc (h ++ e ∷ []) ≡ present_items sc h
items_on sc h e none = ap (step_items sc) (lines_push h e ∙ (let one : count_by is_line (e ∷ []) ≡ 0 = rw none refl in let same : lines h + count_by is_line (e ∷ []) ≡ lines h = omega (arith, one) in same))

-- a site that is down in a recover step stays down in it
one_down : (sc : Scenario) (h : List Entry) (group : List ℕ) (items : List Item) (o : ℕ) (act : Act) → present_items sc h ≡ item.Recover group ∷ items →
    Guard sc h (record { owner = o; act = act }) → up_behind false act ≡ false
one_down sc h group items zero (Rise kept inc) is guard = absurd guard
one_down sc h group items (suc s) (Rise kept inc) is guard = absurd (never_rises sc h group items (suc s) is guard.rising.turn)
one_down sc h group items o (RiseFall kept inc why) is guard = refl
one_down sc h group items o (Step i records outs told) is guard = refl
one_down sc h group items o (Fall inputs records why) is guard = refl
one_down sc h group items o Miss is guard = refl
one_down sc h group items o Cut is guard = refl
one_down sc h group items o (Drop number) is guard = refl
one_down sc h group items o (Parts parts) is guard = refl
one_down sc h group items o (Line number) is guard = refl

stays_down : (sc : Scenario) (h more : List Entry) (group : List ℕ) (items : List Item) (s : ℕ) → present_items sc h ≡ item.Recover group ∷ items →
    LegalAfter sc h more → list_any is_line more ≡ false → is_up_at h s ≡ false → is_up_at (h ++ more) s ≡ false
stays_down sc h [] group items s is guards none down = ap (λ l. is_up_at l s) (append-nil h) ∙ down
stays_down sc h (e ∷ more) group items s is guards none down =
    ap (λ l. is_up_at l s) (sym (append_assoc h (e ∷ []) more))
    ∙ stays_down sc (h ++ e ∷ []) more group items s (items_on sc h e parts.0 ∙ is) guards.1 parts.1 (by (e.owner == s) refl)
  where
    parts : (is_line e ≡ false) × (list_any is_line more ≡ false)
    parts = or_parts (is_line e) (list_any is_line more) none

    by : (b : Bool) → (e.owner == s) ≡ b → is_up_at (h ++ e ∷ []) s ≡ false
    by true mine = up_same h e s mine ∙ ap (λ was. up_behind was e.act) down ∙ one_down sc h group items e.owner e.act is guards.0
    by false mine = up_other h e s mine ∙ down

-- so all members are up now
pub up_now : (sc : Scenario) (members : List ℕ) (h more : List Entry) (s : ℕ) → Rest sc members h more → has_site members s ≡ true → is_up_at h s ≡ true
up_now sc members h more s rest member = by (is_up_at h s) refl
  where
    by : (b : Bool) → is_up_at h s ≡ b → is_up_at h s ≡ true
    by true up = up
    by false down = absurd (let same : true ≡ false = sym (rest.up s member) ∙ stays_down sc h more rest.group rest.items s rest.recovers rest.guards rest.no_line down in cc)

-- the next entry is the delivery of the first packet, and the rest is still to come
pub record Next (sc : Scenario) (members : List ℕ) (h more : List Entry) (p : Packet) : Type 0 where
  pub later : List Entry
  pub is : more ≡ entry_of sc h p.to (input.Deliver p) ∷ later
  pub rest : Rest sc members (h ++ entry_of sc h p.to (input.Deliver p) ∷ []) later

rest_on : (sc : Scenario) (members : List ℕ) (h more : List Entry) (e : Entry) → Rest sc members h (e ∷ more) → parts_of sc (h ++ e ∷ []) ≡ parts_of sc h →
    Rest sc members (h ++ e ∷ []) more
rest_on sc members h more e rest same = record {
  given = rest.given;
  group = rest.group;
  items = rest.items;
  recovers = items_on sc h e parts.0 ∙ rest.recovers;
  together = λ s u first second. ap (λ l. same_part l s u) same ∙ rest.together s u first second;
  guards = rest.guards.1;
  no_line = parts.1;
  ended = ap (pending sc) (append_assoc h (e ∷ []) more) ∙ rest.ended;
  up = λ s member. ap (λ l. is_up_at l s) (append_assoc h (e ∷ []) more) ∙ rest.up s member;
}
  where
    parts : (is_line e ≡ false) × (list_any is_line more ≡ false)
    parts = or_parts (is_line e) (list_any is_line more) rest.no_line

-- a fall of the receiver would leave it down
no_fall : (sc : Scenario) (members : List ℕ) (h more : List Entry) (p : Packet) (o : ℕ) (act : Act) → Here sc h p → Rest sc members h (record { owner = o; act = act } ∷ more) →
    has_site members p.to ≡ true → falls act ≡ true → ⊥
no_fall sc members h more p zero (Fall inputs records why) here rest member fell = absurd rest.guards.0
no_fall sc members h more p (suc s) (Fall [] records why) here rest member fell = absurd (rest.guards.0.some rest.guards.0.made)
no_fall sc members h more p (suc s) (Fall (i ∷ inputs) records why) here rest member fell =
    let owner : p.to ≡ suc s = due_owner sc h p (suc s) i here rest.guards.0.due.0 in
    let e : Entry = record { owner = suc s; act = Fall (i ∷ inputs) records why } in
    let is_its : (e.owner == p.to) ≡ true = eq-eqb (suc s) p.to (sym owner) in
    let down : is_up_at (h ++ e ∷ []) p.to ≡ false = up_same h e p.to is_its in
    let parts = or_parts (is_line e) (list_any is_line more) rest.no_line in
    let still : is_up_at ((h ++ e ∷ []) ++ more) p.to ≡ false =
    stays_down sc (h ++ e ∷ []) more rest.group rest.items p.to (items_on sc h e parts.0 ∙ rest.recovers) rest.guards.1 parts.1 down in
    (let same : true ≡ false = sym (rest.up p.to member) ∙ ap (λ l. is_up_at l p.to) (sym (append_assoc h (e ∷ []) more)) ∙ still in cc)
no_fall sc members h more p o (Step i records outs told) here rest member fell = absurd cc
no_fall sc members h more p o (Rise kept inc) here rest member fell = absurd cc
no_fall sc members h more p o (RiseFall kept inc why) here rest member fell = absurd cc
no_fall sc members h more p o Miss here rest member fell = absurd cc
no_fall sc members h more p o Cut here rest member fell = absurd cc
no_fall sc members h more p o (Drop number) here rest member fell = absurd cc
no_fall sc members h more p o (Parts parts) here rest member fell = absurd cc
no_fall sc members h more p o (Line number) here rest member fell = absurd cc

pub goes_on : (sc : Scenario) (members : List ℕ) (h more : List Entry) (p : Packet) (ps : List Packet) → Rest sc members h more → IsQueue sc h (p ∷ ps) →
    has_site members p.to ≡ true → Next sc members h more p
goes_on sc members h more p ps rest queue member = by more rest
  where
    waits : pending sc h ≡ p ∷ ps
    waits = queue_is_pending sc h (p ∷ ps) queue

    by : (more : List Entry) → Rest sc members h more → Next sc members h more p
    by [] rest = absurd (let none : [] ≡ p ∷ ps = sym rest.ended ∙ ap (pending sc) (append-nil h) ∙ waits in cc)
    by (e ∷ later) rest = record {
      later = later;
      is = ap (λ x. x ∷ later) same;
      rest = subst (λ x. Rest sc members (h ++ x ∷ []) later) same (rest_on sc members h later e rest (ap (λ x. parts_of sc (h ++ x ∷ [])) same ∙ step_parts));
    }
      where
        here : Here sc h p
        here = record { group = rest.group; items = rest.items; ps = ps; given = rest.given; recovers = rest.recovers; waits = waits; up = up_now sc members h (e ∷ later) p.to rest member }

        stays : falls e.act ≡ false
        stays = choose (falls e.act) refl
          where
            choose : (b : Bool) → falls e.act ≡ b → falls e.act ≡ false
            choose false is = is
            choose true is = absurd (no_fall sc members h later p e.owner e.act here rest member is)

        same : e ≡ entry_of sc h p.to (input.Deliver p)
        same = next_delivery sc h p e here stays rest.guards.0

        step_parts : parts_of sc (h ++ entry_of sc h p.to (input.Deliver p) ∷ []) ≡ parts_of sc h
        step_parts = fold-append _ _ h (entry_of sc h p.to (input.Deliver p) ∷ [])
