-- Each entry that takes a packet lowers the measure.
use Rattle.std.proofs.Common.{◌≡◌, ◌⊎◌, ◌≤◌, ◌<◌, ◌==◌, inl, inr, ◌∷◌, ◌++◌, [], ℕ, zero, suc, true, false, List, Some, None, length, refl, ap, sym, subst, ◌∙◌, arith, if◌then◌else◌, eq-eqb, nat_lt, nat_le, ◌&&◌}
use Rattle.std.specs.Prelude.{is_none}
use Rattle.std.specs.List.{list_all}
use Rattle.std.proofs.lemmas.Bool.{and_parts}
use Rattle.std.proofs.lemmas.Grind.{fold-append}
use Rattle.e3_types.specs.declared.entries.Act.{Act}
use Rattle.e3_types.specs.declared.entries.Act.TheVariants.{Step, Fall, Drop, Rise, RiseFall, Miss, Cut, Parts, Line}
use Rattle.e3_types.specs.declared.entries.Entry.{Entry}
use Rattle.e3_types.specs.declared.entries.Input.{Input}
use Rattle.e3_types.specs.declared.entries.Input.TheVariants as input
use Rattle.e3_types.specs.declared.entries.Why.{Why}
use Rattle.e3_types.specs.declared.messages.Packet.{Packet}
use Rattle.e3_types.specs.declared.records.Record.{Record}
use Rattle.e3_types.specs.declared.records.Record.TheVariants as log
use Rattle.e3_types.specs.declared.scenarios.Scenario.{Scenario}
use Rattle.e3_types.specs.declared.transactions.Dir.{Dir}
use Rattle.e3_types.specs.declared.transactions.Dir.TheVariants.{Abort}
use Rattle.e3_types.specs.declared.transactions.Txn.{Txn}
use Rattle.e3_types.specs.Ranks.{rank}
use Rattle.e3_types.specs.Sets.{has_site}
use Rattle.e3_world.specs.declared.lives.Made.{Made}
use Rattle.e3_world.specs.Given.{IsGiven}
use Rattle.e3_world.specs.Items.{is_up_at}
use Rattle.e3_world.specs.Legal.{Guard, IsDelivery, IsDrop, IsLegal, entry_of, made_by}
use Rattle.e3_world.specs.Lives.{incarnation_of}
use Rattle.e3_world.specs.Logs.{decision, decision_by, is_undecided}
use Rattle.e3_world.specs.Moves.{log_of, moves_of}
use Rattle.e3_world.specs.Packets.{sent}
use Rattle.e3_world.specs.Sound.{txn_in}
use Rattle.e3_world.proofs.Pushes.{present_is_log}
use Rattle.e3_net.specs.Stands.{waiting_of}
use Rattle.e3_laws.specs.steps.Waiting.{is_answer}
use Rattle.e3_laws.proofs.steps.Suits.Laws.{inputs_suit}
use Rattle.e3_laws.specs.local.Settling.{DeliveriesBeginNothing, PacketsSettle, TakingLowers}
use Rattle.e3_laws.specs.local.Dooms.{Dooms}
use Rattle.e3_laws.specs.local.Measures.{begun, copies_at, down_from, is_below, measure, open_pairs, takes_packet}
use Rattle.e3_laws.proofs.local.Measure.Begun.{begun_none, delivery_begins_none}
use Rattle.e3_laws.proofs.local.Measure.Issued.{issued_begun}
use Rattle.e3_laws.proofs.local.Measure.Copies.{copies_lower, numbered_below}
use Rattle.e3_laws.proofs.local.Measure.Counting.{lower_first, lower_or}
use Rattle.e3_laws.proofs.local.Measure.Falling.{Takes, fall_takes}
use Rattle.e3_laws.proofs.local.Measure.Logs.{pairs_le, pairs_less}
use Rattle.e3_laws.proofs.steps.Moving.{log_on}
use Rattle.e3_laws.proofs.steps.Tests.{same_self}

abbrev Lower : Scenario → List Entry → Entry → Type 0
Lower sc h e = is_below (measure sc (h ++ e ∷ [])) (measure sc h) ≡ true

by_copies : (sc : Scenario) (h : List Entry) (e : Entry) → begun (h ++ e ∷ []) ≡ begun h →
    is_below (down_from 11 (copies_at (waiting_of sc (h ++ e ∷ [])))) (down_from 11 (copies_at (waiting_of sc h))) ≡ true → Lower sc h e
by_copies sc h e same is = lower_or (open_pairs sc (h ++ e ∷ [])) (open_pairs sc h) (down_from 11 (copies_at (waiting_of sc (h ++ e ∷ [])))) (down_from 11 (copies_at (waiting_of sc h))) (pairs_le sc h e same) is

by_pairs : (sc : Scenario) (h : List Entry) (e : Entry) → open_pairs sc (h ++ e ∷ []) < open_pairs sc h → Lower sc h e
by_pairs sc h e less = lower_first (open_pairs sc (h ++ e ∷ [])) (open_pairs sc h) (down_from 11 (copies_at (waiting_of sc (h ++ e ∷ [])))) (down_from 11 (copies_at (waiting_of sc h))) less

one_if : (n m : ℕ) → n ≡ m → 1 ≤ (if n == m then 1 else 0)
one_if n m same = rw (eq-eqb n m same) (omega arith)

decided : (t : Txn) (dir : Dir) (xs : List Record) → is_undecided t (xs ++ log.Decision t dir ∷ []) ≡ false
decided t dir xs =
    ap is_none (fold-append (decision_by t) None xs (log.Decision t dir ∷ []))
    ∙ ap (λ b. is_none (if b then Some dir else decision t xs)) (same_self t)

-- a delivery
delivered : (sc : Scenario) (h : List Entry) (site : ℕ) (p : Packet) → PacketsSettle → IsGiven sc → IsLegal sc h → is_up_at h site ≡ true →
    IsDelivery sc h site p → Lower sc h (entry_of sc h site (input.Deliver p))
delivered sc h site p settles given legal up due = by (settles sc.weights site (incarnation_of (moves_of sc h site)) p)
  where
    e : Entry
    e = entry_of sc h site (input.Deliver p)

    made : Made
    made = made_by sc h site (input.Deliver p)

    same : begun (h ++ e ∷ []) ≡ begun h
    same = delivery_begins_none sc h site p given legal due

    t : Txn
    t = txn_in p.msg

    by : (list_all (λ q. nat_lt (rank q.msg) (rank p.msg)) made.outs ≡ true) ⊎ ((is_answer p.msg ≡ true) × Dooms site (incarnation_of (moves_of sc h site)) t made) → Lower sc h e
    by (inl low) = by_copies sc h e same
        (copies_lower sc h e p due.is_pending (one_if p.number p.number refl) (numbered_below (rank p.msg) (suc (length (sent h))) made.outs low))
    by (inr (answers, dooms)) = by_pairs sc h e (pairs_less sc h e t site same
        (issued_begun sc h site t legal dooms.issues)
        (and_parts (has_site t.sites site) (list_all (λ s. nat_le 1 s && nat_le s (length sc.weights)) t.sites) (inputs_suit sc h site (input.Deliver p) given legal due).2.among).0
        (let P : List Record → Type 0 = λ l. is_undecided t l ≡ true in subst P (present_is_log (moves_of sc h site)) dooms.undecided)
        (ap (is_undecided t) (log_on sc h site (input.Deliver p) ∙ ap (λ l. log_of sc h site ++ l) dooms.aborted) ∙ decided t Abort (log_of sc h site)))

-- a drop
dropped : (sc : Scenario) (h : List Entry) (owner number : ℕ) → IsDrop sc h number → Lower sc h (record { owner = owner; act = Drop number })
dropped sc h owner number drop =
    let e : Entry = record { owner = owner; act = Drop number } in
    by_copies sc h e (begun_none h e refl)
    (copies_lower sc h e drop.packet drop.is_pending (one_if number drop.packet.number (sym drop.is_its)) refl)

-- a fall over a delivery
fallen : (sc : Scenario) (h : List Entry) (site : ℕ) (inputs : List Input) (records : List Record) (why : Why) → Takes sc h site inputs →
    Lower sc h (record { owner = site; act = Fall inputs records why })
fallen sc h site inputs records why takes =
    let e : Entry = record { owner = site; act = Fall inputs records why } in
    by_copies sc h e (begun_none h e refl) (copies_lower sc h e takes.packet takes.is_pending takes.taken refl)

lowers : (sc : Scenario) (h : List Entry) (owner : ℕ) (act : Act) → PacketsSettle → IsGiven sc → IsLegal sc h → Guard sc h (record { owner = owner; act = act }) →
    takes_packet act ≡ true → Lower sc h (record { owner = owner; act = act })
lowers sc h zero (Drop number) settles given legal guard takes = dropped sc h 0 number guard
lowers sc h zero (Line number) settles given legal guard takes = absurd cc
lowers sc h zero (Parts parts) settles given legal guard takes = absurd cc
lowers sc h zero act settles given legal guard takes = absurd guard
lowers sc h (suc s) (Step (input.Deliver p) records outs events) settles given legal guard takes =
    subst (Lower sc h) (sym guard.made) (delivered sc h (suc s) p settles given legal guard.up guard.due)
lowers sc h (suc s) (Step i records outs events) settles given legal guard takes = absurd cc
lowers sc h (suc s) (Fall inputs records why) settles given legal guard takes =
    fallen sc h (suc s) inputs records why (fall_takes sc h (suc s) inputs given legal (omega arith) guard.up guard.due takes)
lowers sc h (suc s) Cut settles given legal guard takes = absurd cc
lowers sc h (suc s) (Rise kept inc) settles given legal guard takes = absurd cc
lowers sc h (suc s) (RiseFall kept inc why) settles given legal guard takes = absurd cc
lowers sc h (suc s) Miss settles given legal guard takes = absurd cc
lowers sc h (suc s) act settles given legal guard takes = absurd guard

pub taking_lowers : PacketsSettle → TakingLowers
taking_lowers settles sc h e given legal guard takes = lowers sc h e.owner e.act settles given legal guard takes

begins : (sc : Scenario) (h : List Entry) (owner : ℕ) (act : Act) → IsGiven sc → IsLegal sc h → Guard sc h (record { owner = owner; act = act }) →
    takes_packet act ≡ true → begun (h ++ record { owner = owner; act = act } ∷ []) ≡ begun h
begins sc h (suc s) (Step (input.Deliver p) records outs events) given legal guard takes =
    subst (λ (e : Entry). begun (h ++ e ∷ []) ≡ begun h) (sym guard.made) (delivery_begins_none sc h (suc s) p given legal guard.due)
begins sc h owner (Fall inputs records why) given legal guard takes = begun_none h _ refl
begins sc h owner (Drop number) given legal guard takes = begun_none h _ refl
begins sc h zero (Step i records outs events) given legal guard takes = absurd guard
begins sc h (suc s) (Step i records outs events) given legal guard takes = absurd cc
begins sc h owner act given legal guard takes = absurd cc

pub begins_nothing : DeliveriesBeginNothing
begins_nothing sc h e given legal guard takes = begins sc h e.owner e.act given legal guard takes
