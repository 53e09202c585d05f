-- The operations that a site has done of a transaction have ascending numbers, and at most one waits.
use Rattle.std.proofs.Common.{◌≡◌, ◌==◌, ◌&&◌, ◌||◌, ◌++◌, ◌∷◌, [], ℕ, ◌≤◌, ◌<◌, Bool, true, false, not, List, refl, sym, subst, ap, ◌∙◌, inl, inr, map, filter, arith, length, nat_lt, nat_le, lt-ltb, le-leb, if◌then◌else◌}
use Rattle.std.specs.List.{list_any, list_all, flat_map, AllByRecursion as Each}
use Rattle.std.proofs.lemmas.Bool.{and_parts, and_from, or_cases, not-true}
use Rattle.e3_types.specs.declared.entries.Entry.{Entry}
use Rattle.e3_types.specs.declared.entries.Told.{Told}
use Rattle.e3_types.specs.declared.entries.Told.TheVariants as told
use Rattle.e3_types.specs.declared.scenarios.Scenario.{Scenario}
use Rattle.e3_types.specs.declared.transactions.Answer.{Answer}
use Rattle.e3_types.specs.declared.transactions.NumOp.{NumOp}
use Rattle.e3_types.specs.declared.transactions.Txn.{Txn}
use Rattle.e3_types.specs.Same.{same_txn}
use Rattle.e3_world.specs.declared.lives.Asked.{Asked}
use Rattle.e3_world.specs.declared.lives.Life.{Life}
use Rattle.e3_world.specs.declared.lives.Moment.{Moment}
use Rattle.e3_world.specs.declared.lives.Performed.{Performed}
use Rattle.e3_world.specs.Items.{is_up_at}
use Rattle.e3_world.specs.Logs.{is_undecided}
use Rattle.e3_world.specs.Operations.{issued, arrivals, answers, answer_told, answer_sent, is_answered, op_told, tells_op, performed_by, waiting}
use Rattle.e3_world.specs.Orderly.{ops_ascend}
use Rattle.e3_laws.specs.steps.Trails.{done_ops, waiting_of}
use Rattle.e3_laws.proofs.steps.Each.{each-kept, each-filter, each-weaker, each-both}
use Rattle.e3_laws.proofs.steps.Operations.Freshness.{life_in}
use Rattle.e3_laws.proofs.steps.Operations.Lasting.{Lasts}
use Rattle.e3_laws.proofs.steps.Operations.Ordering.{InOrder, Ordered}
use Rattle.e3_laws.proofs.steps.Operations.Stepping.{any_answer, any_left, any_right}
use Rattle.e3_laws.proofs.steps.Operations.Talks.{SentDo, SentDone}
use Rattle.e3_laws.proofs.steps.Operations.Tracing.{was_delivered, CameIn, arrivals_came}
use Rattle.e3_laws.proofs.steps.Tests.{same_is}

-- the numbers ascend strictly
abbrev Rising : List Asked → Type 0
Rising [] = Unit {0}
Rising (q ∷ qs) = Each (λ r. q.n < r.n) qs × Rising qs

order_filter : (p : Asked → Bool) (qs : List Asked) → InOrder qs → InOrder (filter p qs)
order_filter p [] order = tt
order_filter p (q ∷ qs) order = by (p q) (order_filter p qs order.1)
  where
    by : (b : Bool) → InOrder (filter p qs) → InOrder (if b then q ∷ filter p qs else filter p qs)
    by true more = (each-filter (λ r. same_txn q.txn r.txn ≡ true → q.n < r.n) p qs order.0, more)
    by false more = more

rising_of : (t : Txn) (qs : List Asked) → InOrder qs → Rising (filter (λ q. same_txn t q.txn) qs)
rising_of t [] order = tt
rising_of t (q ∷ qs) order = by (same_txn t q.txn) refl (rising_of t qs order.1)
  where
    by : (b : Bool) → same_txn t q.txn ≡ b → Rising (filter (λ q. same_txn t q.txn) qs) →
        Rising (if b then q ∷ filter (λ q. same_txn t q.txn) qs else filter (λ q. same_txn t q.txn) qs)
    by true is more = (
      each-weaker (λ r. (same_txn q.txn r.txn ≡ true → q.n < r.n) × (same_txn t r.txn ≡ true)) (λ r. q.n < r.n)
          (λ r both. both.0 (let P : Txn → Type 0 = λ u. same_txn u r.txn ≡ true in subst P (same_is t q.txn is) both.1)) (filter (λ q. same_txn t q.txn) qs)
          (each-kept (λ r. same_txn q.txn r.txn ≡ true → q.n < r.n) (λ q. same_txn t q.txn) qs order.0),
      more,
    )
    by false is more = more

-- operations as a vote lists them
abbrev num_ops : List Performed → List NumOp
num_ops ps = map (λ p. record { n = p.n; op = p.op }) ps

done_rise : (steps : List Moment) (low : ℕ) (qs : List Asked) → Each (λ q. low < q.n) qs → Rising qs →
    ops_ascend low (num_ops (flat_map (performed_by steps) qs)) ≡ true
done_rise steps low [] above rise = refl
done_rise steps low (q ∷ qs) above rise = by (answers q steps) refl (done_rise steps low qs above.1 rise.1) (done_rise steps q.n qs rise.0 rise.1)
  where
    by : (l : List Answer) → answers q steps ≡ l → ops_ascend low (num_ops (flat_map (performed_by steps) qs)) ≡ true →
        ops_ascend q.n (num_ops (flat_map (performed_by steps) qs)) ≡ true →
        ops_ascend low (num_ops (flat_map (performed_by steps) (q ∷ qs))) ≡ true
    by [] is skip more = rw is skip
    by (x ∷ xs) is skip more = rw is (and_from (nat_lt low q.n) _ (lt-ltb low q.n above.0) more)

done_few : (steps : List Moment) (qs : List Asked) → Each (λ q. q.n ≤ 64) qs →
    list_all (λ o. nat_le o.n 64) (num_ops (flat_map (performed_by steps) qs)) ≡ true
done_few steps [] few = refl
done_few steps (q ∷ qs) few = by (answers q steps) refl (done_few steps qs few.1)
  where
    by : (l : List Answer) → answers q steps ≡ l → list_all (λ o. nat_le o.n 64) (num_ops (flat_map (performed_by steps) qs)) ≡ true →
        list_all (λ o. nat_le o.n 64) (num_ops (flat_map (performed_by steps) (q ∷ qs))) ≡ true
    by [] is more = rw is more
    by (x ∷ xs) is more = rw is (and_from (nat_le q.n 64) _ (le-leb q.n 64 few.0) more)

pub done_ascend : (site : ℕ) (t : Txn) (life : Life) → Ordered site life.steps →
    (ops_ascend 0 (done_ops site t life) ≡ true) × (list_all (λ o. nat_le o.n 64) (done_ops site t life) ≡ true)
done_ascend site t life order =
    let all : Each (λ q. (1 ≤ q.n) × (q.n ≤ 64)) (filter (λ q. same_txn t q.txn) (arrivals site life.steps)) =
    each-filter (λ q. (1 ≤ q.n) × (q.n ≤ 64)) (λ q. same_txn t q.txn) (arrivals site life.steps) order.numbered in (
      done_rise life.steps 0 (filter (λ q. same_txn t q.txn) (arrivals site life.steps))
          (each-weaker (λ q. (1 ≤ q.n) × (q.n ≤ 64)) (λ q. 0 < q.n) (λ q is. let low : 1 ≤ q.n = is.0 in omega (arith, low)) (filter (λ q. same_txn t q.txn) (arrivals site life.steps)) all)
          (rising_of t (arrivals site life.steps) order.ascends),
      done_few life.steps (filter (λ q. same_txn t q.txn) (arrivals site life.steps))
          (each-weaker (λ q. (1 ≤ q.n) × (q.n ≤ 64)) (λ q. q.n ≤ 64) (λ q is. is.1) (filter (λ q. same_txn t q.txn) (arrivals site life.steps)) all),
    )

-- an operation whose answer was told was answered
told_any : (q : Asked) (l : List Told) → list_any (tells_op q.txn q.n) l ≡ true → any_answer (flat_map (answer_told q) l) ≡ true
told_any q [] some = absurd cc
told_any q (told.Op t n answer ∷ l) some = by (q.n == n && same_txn q.txn t) some (λ more. told_any q l more)
  where
    by : (b : Bool) → (b || list_any (tells_op q.txn q.n) l) ≡ true → (list_any (tells_op q.txn q.n) l ≡ true → any_answer (flat_map (answer_told q) l) ≡ true) →
        any_answer ((if b then answer ∷ [] else []) ++ flat_map (answer_told q) l) ≡ true
    by true some more = refl
    by false some more = more some
told_any q (e ∷ l) some = told_any q l some

told_answered : (q : Asked) (steps : List Moment) → op_told q.txn q.n steps ≡ true → is_answered steps q ≡ true
told_answered q [] some = absurd cc
told_answered q (m ∷ steps) some = elim (or_cases (list_any (tells_op q.txn q.n) m.told) (op_told q.txn q.n steps) some) [
  | inl this ↦ any_left (flat_map (answer_told q) m.told ++ flat_map (answer_sent q) m.outs) (answers q steps)
      (any_left (flat_map (answer_told q) m.told) (flat_map (answer_sent q) m.outs) (told_any q m.told this))
  | inr more ↦ any_right (flat_map (answer_told q) m.told ++ flat_map (answer_sent q) m.outs) (answers q steps) (told_answered q steps more)
]

-- what is known of an operation that came to a site
record Known (sc : Scenario) (h : List Entry) (site : ℕ) (t : Txn) (q : Asked) : Type 0 where
  pub came : CameIn site (life_in sc h site).steps q
  pub low : 1 ≤ q.n
  pub issued : q.txn.site ≡ site → q.n ≤ length (issued q.txn (life_in sc h site).steps)
  pub same : t ≡ q.txn
  pub waits : is_answered (life_in sc h site).steps q ≡ false

-- an operation before another was answered
earlier_answered : (sc : Scenario) (h : List Entry) (site : ℕ) (t : Txn) (q r : Asked) → Lasts sc h → is_up_at h site ≡ true → Known sc h site t q → Known sc h site t r → q.n < r.n →
    is_answered (life_in sc h site).steps q ≡ true
earlier_answered sc h site t q r lasts up first second less = by first.came second.came
  where
    alike : r.txn ≡ q.txn
    alike = sym second.same ∙ first.same

    at_home : r.txn.site ≡ site → is_answered (life_in sc h site).steps q ≡ true
    at_home own =
        let few : r.n ≤ length (issued r.txn (life_in sc h site).steps) = second.issued own in
        let equal : _ = ap (λ u. length (issued u (life_in sc h site).steps)) alike in
        told_answered q (life_in sc h site).steps (lasts.talks.told q.txn site q.n up first.low (omega (arith, few, equal, less)))

    far : was_delivered q.txn q.n (life_in sc h site).steps ≡ true → was_delivered r.txn r.n (life_in sc h site).steps ≡ true → is_answered (life_in sc h site).steps q ≡ true
    far here there =
        let P : Txn → Type 0 = λ u. SentDo h u r.n site in
        let before : SentDone h q.txn q.n site = lasts.talks.before q.txn r.n q.n site site (subst P alike (lasts.talks.took r.txn r.n site up there)) (lasts.talks.took q.txn q.n site up here) less in
        elim (lasts.talks.done q site before) [
          | inl answered ↦ answered up
          | inr gone ↦ absurd (let both : true ≡ false = sym here ∙ gone.0 up in cc)
        ]

    by : CameIn site (life_in sc h site).steps q → CameIn site (life_in sc h site).steps r → is_answered (life_in sc h site).steps q ≡ true
    by here (inl own) = at_home own
    by (inl own) (inr there) = at_home (ap (λ u. u.site) alike ∙ own)
    by (inr here) (inr there) = far here there

waits_few : (sc : Scenario) (h : List Entry) (site : ℕ) (t : Txn) (qs : List Asked) → Lasts sc h → is_up_at h site ≡ true → Each (Known sc h site t) qs → Rising qs → length qs ≤ 1
waits_few sc h site t [] lasts up known rise = omega arith
waits_few sc h site t (q ∷ []) lasts up known rise = omega arith
waits_few sc h site t (q ∷ r ∷ qs) lasts up known rise =
    absurd (let both : true ≡ false = sym (earlier_answered sc h site t q r lasts up known.0 known.1.0 rise.0.0) ∙ known.0.waits in cc)

pub one_waits : (sc : Scenario) (h : List Entry) (site : ℕ) (t : Txn) → Lasts sc h → is_up_at h site ≡ true → Ordered site (life_in sc h site).steps →
    length (waiting_of site t (life_in sc h site)) ≤ 1
one_waits sc h site t lasts up order =
    let W : Asked → Bool = λ q. is_undecided q.txn (life_in sc h site).log && not (is_answered (life_in sc h site).steps q) in
    let P : Asked → Type 0 = λ q. CameIn site (life_in sc h site).steps q × ((1 ≤ q.n) × (q.n ≤ 64)) in
    let R : Asked → Type 0 = λ q. P q × (q.txn.site ≡ site → q.n ≤ length (issued q.txn (life_in sc h site).steps)) in
    let all : Each R (arrivals site (life_in sc h site).steps) =
    each-both P (λ q. q.txn.site ≡ site → q.n ≤ length (issued q.txn (life_in sc h site).steps)) (arrivals site (life_in sc h site).steps)
    (each-both (CameIn site (life_in sc h site).steps) (λ q. (1 ≤ q.n) × (q.n ≤ 64)) (arrivals site (life_in sc h site).steps)
    (arrivals_came sc.weights site (life_in sc h site).steps (lasts.holds.now.sites site).life.steps) order.numbered) order.issued in
    waits_few sc h site t (waiting_of site t (life_in sc h site)) lasts up
    (each-weaker (λ q. (R q × (W q ≡ true)) × (same_txn t q.txn ≡ true)) (Known sc h site t) (λ q is. record {
      came = is.0.0.0.0;
      low = is.0.0.0.1.0;
      issued = is.0.0.1;
      same = same_is t q.txn is.1;
      waits = not-true (is_answered (life_in sc h site).steps q) (and_parts (is_undecided q.txn (life_in sc h site).log) (not (is_answered (life_in sc h site).steps q)) is.0.1).1;
    }) (waiting_of site t (life_in sc h site))
    (each-kept (λ q. R q × (W q ≡ true)) (λ q. same_txn t q.txn) (waiting site (life_in sc h site).log (life_in sc h site).steps)
    (each-kept R W (arrivals site (life_in sc h site).steps) all)))
    (rising_of t (waiting site (life_in sc h site).log (life_in sc h site).steps) (order_filter W (arrivals site (life_in sc h site).steps) order.ascends))
