-- The generated scenario of a number keeps the rules.
use Rattle.std.proofs.Common.{◌≡◌, ◌≤◌, ◌<◌, ◌≢◌, ◌++◌, ◌∷◌, [], ◌+◌, ◌*◌, ◌^◌, ◌%◌, ◌&&◌, ◌||◌, ◌==◌, ℕ, zero, suc, Bool, true, false, List, length, map, refl, sym, ap, subst, ◌∙◌, append-nil, arith, eq-eqb}
use Rattle.std.specs.Prelude.{not, nat_lt, cond, if◌then◌else◌}
use Rattle.std.specs.List.{list_any}
use Rattle.std.specs.Fmt.{decimal}
use Rattle.std.proofs.lemmas.Fmt.{decimal_injective}
use Rattle.std.proofs.lemmas.Bool.{lt-ltb}
use Rattle.std.proofs.lemmas.Nat.{mod_below}
use Rattle.std.proofs.lemmas.List.Sums.{sum_by_push}
use Rattle.e3_types.specs.declared.scenarios.Item.{Item}
use Rattle.e3_types.specs.declared.scenarios.Item.TheVariants as item
use Rattle.e3_types.specs.declared.scenarios.Leave.TheVariants as leave
use Rattle.e3_types.specs.Same.{same_numbers}
use Rattle.e3_types.specs.Sets.{has_site, is_within, others}
use Rattle.e3_types.proofs.SameSites.{same_numbers_refl, same_numbers_eq}
use Rattle.e3_world.specs.Given.{BegunName, ItemsSoFar, IsGiven, exist, is_begun, is_group, is_partition, count_ops, keeps_rules, with_item, close_step, steps_keep}
use Rattle.e3_gen.specs.declared.draws.RecordWords.{RecordWords}
use Rattle.e3_gen.specs.Draws.{txn_words, behind_txns}
use Rattle.e3_gen.specs.Items.{five, txn_name, sites_of, fellow, key_of, operations, cut_off, crashed, stopped, last_items, items_at, coordinator}
use Rattle.e3_gen.specs.Generated.{items_to, step_of, scenario_with, generated_scenario}

-- what the items came to so far, with these names, operations and parts, between two steps
abbrev items_between : List BegunName → List (List ℕ) → List (List ℕ) → ItemsSoFar
items_between begun ops parts = record { earlier = begun; fresh = []; ops = ops; parts = parts }

module _ (n : ℕ) (steps : List (List Item)) where
  -- steps of one item each keep the rules, and lead from what the items came to before to what they come to then
  record Goes (k : ItemsSoFar) (items : List Item) (l : ItemsSoFar) : Type 0 where
    keep : (more : List (List Item)) → steps_keep (scenario_with n steps) l more ≡ true → steps_keep (scenario_with n steps) k (map step_of items ++ more) ≡ true

  nowhere : (k : ItemsSoFar) → Goes k [] k
  nowhere k = record { keep = λ more is. is }

  both : (a b : Bool) → a ≡ true → b ≡ true → (a && b) ≡ true
  both a b e f = rw (e, f) refl

  one : (k l m : ItemsSoFar) (i : Item) (items : List Item) → keeps_rules (scenario_with n steps) k i ≡ true →
      close_step (with_item (scenario_with n steps) k i) ≡ l → Goes l items m → Goes k (i ∷ items) m
  one k l m i items keeps leads goes = record {
    keep = λ more is.
        both (keeps_rules (scenario_with n steps) k i && true) (steps_keep (scenario_with n steps) (close_step (with_item (scenario_with n steps) k i)) (map step_of items ++ more))
        (both (keeps_rules (scenario_with n steps) k i) true keeps refl)
        (subst (λ (x : ItemsSoFar). steps_keep (scenario_with n steps) x (map step_of items ++ more) ≡ true) (sym leads) (goes.keep more is));
  }

  map_both : (xs ys : List Item) (more : List (List Item)) → map step_of (xs ++ ys) ++ more ≡ map step_of xs ++ (map step_of ys ++ more)
  map_both [] ys more = refl
  map_both (x ∷ xs) ys more = ap (λ l. step_of x ∷ l) (map_both xs ys more)

  followed : (k l m : ItemsSoFar) (xs ys : List Item) → Goes k xs l → Goes l ys m → Goes k (xs ++ ys) m
  followed k l m xs ys first second = record {
    keep = λ more is.
        subst (λ (z : List (List Item)). steps_keep (scenario_with n steps) k z ≡ true) (sym (map_both xs ys more)) (first.keep (map step_of ys ++ more) (second.keep more is));
  }

  -- a step that begins nothing leaves the names as they are
  closed : (begun : List BegunName) (ops parts : List (List ℕ)) → items_between (begun ++ []) ops parts ≡ items_between begun ops parts
  closed begun ops parts = ap (λ b. items_between b ops parts) (append-nil begun)

or_right : (a b : Bool) → b ≡ true → (a || b) ≡ true
or_right true b e = refl
or_right false b e = e

neither : (a b : Bool) → (a || b) ≡ false → (a ≡ false) × (b ≡ false)
neither true b e = cc
neither false b e = (refl, e)

or_none : (a b : Bool) → a ≡ false → b ≡ false → (a || b) ≡ false
or_none a b e f = rw (e, f) refl

-- a name that was begun last
begun_last : (begun : List BegunName) (name sites more : List ℕ) → is_within more sites ≡ true → is_begun (begun ++ record { name = name; sites = sites } ∷ []) name more ≡ true
begun_last [] name sites more within = rw (same_numbers_refl name, within) refl
begun_last (b ∷ begun) name sites more within =
    or_right (same_numbers name b.name && is_within more b.sites) (is_begun (begun ++ record { name = name; sites = sites } ∷ []) name more) (begun_last begun name sites more within)

-- a name that was not begun, and is another than the last
new_still : (begun : List BegunName) (q name sites : List ℕ) → is_begun begun q [] ≡ false → same_numbers q name ≡ false → is_begun (begun ++ record { name = name; sites = sites } ∷ []) q [] ≡ false
new_still [] q name sites free other = rw other refl
new_still (b ∷ begun) q name sites free other =
    let p = neither (same_numbers q b.name && is_within [] b.sites) (is_begun begun q []) free in
    or_none (same_numbers q b.name && is_within [] b.sites) (is_begun (begun ++ record { name = name; sites = sites } ∷ []) q []) p.0 (new_still begun q name sites p.1 other)

-- one more operation of a name
op_more : (ops : List (List ℕ)) (name : List ℕ) → count_ops (ops ++ name ∷ []) name ≡ count_ops ops name + 1
op_more ops name = sum_by_push (λ x. cond (same_numbers name x) 1 0) ops name ∙ ap (λ b. count_ops ops name + cond b 1 0) (same_numbers_refl name)

op_other : (ops : List (List ℕ)) (q name : List ℕ) → same_numbers q name ≡ false → count_ops (ops ++ name ∷ []) q ≡ count_ops ops q
op_other ops q name other =
    sum_by_push (λ x. cond (same_numbers q x) 1 0) ops name ∙ ap (λ b. count_ops ops q + cond b 1 0) other ∙ (let zero_more : count_ops ops q + 0 ≡ count_ops ops q = omega arith in zero_more)

below : (a b : ℕ) → a < b → nat_lt a b ≡ true
below a b less = lt-ltb a b less

-- the site of a key
site_key : (site word : ℕ) (begun : List BegunName) (name : List ℕ) → is_begun begun name (site ∷ []) ≡ true → is_begun begun name ((key_of site word).site ∷ []) ≡ true
unfolding key_of
site_key site word begun name is = is

-- the operations of a transaction are few, and are of no other name
record Did (ops : List (List ℕ)) (name : List ℕ) (now : List (List ℕ)) : Type 0 where
  others_same : (q : List ℕ) → same_numbers q name ≡ false → count_ops now q ≡ count_ops ops q

module _ (n : ℕ) (steps : List (List Item)) where
  abbrev To : ItemsSoFar → List Item → ItemsSoFar → Type 0
  To k items l = Goes n steps k items l

  -- what the operations of a transaction lead to
  record AllDone (begun : List BegunName) (ops parts : List (List ℕ)) (name : List ℕ) (items : List Item) : Type 0 where
    now : List (List ℕ)
    goes : To (items_between begun ops parts) items (items_between begun now parts)
    did : Did ops name now

  operate : (begun : List BegunName) (ops parts : List (List ℕ)) (name sites : List ℕ) (words : List RecordWords) →
      ((s : ℕ) → has_site sites s ≡ true → is_begun begun name (s ∷ []) ≡ true) → count_ops ops name + 2 * length sites ≤ 64 →
      AllDone begun ops parts name (operations name words sites)
  operate begun ops parts name sites [] at few = record { now = ops; goes = nowhere n steps (items_between begun ops parts); did = record { others_same = λ q o. refl } }
  operate begun ops parts name [] (w ∷ words) at few = record { now = ops; goes = nowhere n steps (items_between begun ops parts); did = record { others_same = λ q o. refl } }
  operate begun ops parts name (site ∷ sites) (w ∷ words) at few =
      let here : is_begun begun name (site ∷ []) ≡ true = at site (rw (eq-eqb site site refl) refl) in
      let once : List (List ℕ) = ops ++ name ∷ [] in
      let twice : List (List ℕ) = once ++ name ∷ [] in
      let counted : count_ops once name ≡ count_ops ops name + 1 = op_more ops name in
      let counted_twice : count_ops twice name ≡ count_ops once name + 1 = op_more once name in
      let rest : AllDone begun twice parts name (operations name words sites) =
      operate begun twice parts name sites words (λ s has. at s (or_right (site == s) (has_site sites s) has)) (omega (arith, few, counted, counted_twice)) in
      record {
        now = rest.now;
        goes =
            one n steps (items_between begun ops parts) (items_between begun once parts) (items_between begun rest.now parts)
            (item.Write name (key_of site w.name) (decimal w.value)) (item.Read name (key_of site w.name) ∷ operations name words sites)
            (both_true (is_begun begun name ((key_of site w.name).site ∷ [])) (nat_lt (count_ops ops name) 64) (site_key site w.name begun name here) (below (count_ops ops name) 64 (omega (arith, few))))
            (closed n steps begun once parts)
            (one n steps (items_between begun once parts) (items_between begun twice parts) (items_between begun rest.now parts)
            (item.Read name (key_of site w.name)) (operations name words sites)
            (both_true (is_begun begun name ((key_of site w.name).site ∷ [])) (nat_lt (count_ops once name) 64) (site_key site w.name begun name here) (below (count_ops once name) 64 (omega (arith, few, counted))))
            (closed n steps begun twice parts) rest.goes);
        did = record { others_same = λ q o. rest.did.others_same q o ∙ op_other once q name o ∙ op_other ops q name o };
      }
    where
      both_true : (a b : Bool) → a ≡ true → b ≡ true → (a && b) ≡ true
      both_true a b e f = rw (e, f) refl

-- what the rules ask of the sites of a transaction, and of its parts
record Fits (c : ℕ) : Type 0 where
  group : (n : ℕ) (steps : List (List Item)) → is_group (scenario_with n steps) (sites_of c) ≡ true
  has : has_site (sites_of c) c ≡ true
  three : length (sites_of c) ≡ 3
  parts : (n : ℕ) (steps : List (List Item)) → is_partition (scenario_with n steps) ((c ∷ []) ∷ others c five ∷ []) ≡ true
  rest : (n : ℕ) (steps : List (List Item)) → is_group (scenario_with n steps) (others c five) ≡ true
  one_part : list_any (is_within (others c five)) ((c ∷ []) ∷ others c five ∷ []) ≡ true
  whole : list_any (is_within (others c five)) (five ∷ []) ≡ true
  here : (n : ℕ) (steps : List (List Item)) → exist (scenario_with n steps) (c ∷ []) ≡ true
  beside : (n : ℕ) (steps : List (List Item)) → exist (scenario_with n steps) (fellow c ∷ []) ≡ true

fits : (c : ℕ) → 1 ≤ c → c ≤ 5 → Fits c
fits zero low high = absurd (omega (arith, low))
fits (suc zero) low high = record { group = λ n steps. refl; has = refl; three = refl; parts = λ n steps. refl; rest = λ n steps. refl; one_part = refl; whole = refl; here = λ n steps. refl; beside = λ n steps. refl }
fits (suc (suc zero)) low high = record { group = λ n steps. refl; has = refl; three = refl; parts = λ n steps. refl; rest = λ n steps. refl; one_part = refl; whole = refl; here = λ n steps. refl; beside = λ n steps. refl }
fits (suc (suc (suc zero))) low high = record { group = λ n steps. refl; has = refl; three = refl; parts = λ n steps. refl; rest = λ n steps. refl; one_part = refl; whole = refl; here = λ n steps. refl; beside = λ n steps. refl }
fits (suc (suc (suc (suc zero)))) low high = record { group = λ n steps. refl; has = refl; three = refl; parts = λ n steps. refl; rest = λ n steps. refl; one_part = refl; whole = refl; here = λ n steps. refl; beside = λ n steps. refl }
fits (suc (suc (suc (suc (suc zero))))) low high = record { group = λ n steps. refl; has = refl; three = refl; parts = λ n steps. refl; rest = λ n steps. refl; one_part = refl; whole = refl; here = λ n steps. refl; beside = λ n steps. refl }
fits (suc (suc (suc (suc (suc (suc c)))))) low high = absurd (omega (arith, high))

module _ (n : ℕ) (steps : List (List Item)) (begun : List BegunName) (ops : List (List ℕ)) where
  -- between two steps, while all sites are one part
  abbrev calm : ItemsSoFar
  calm = items_between begun ops (five ∷ [])

  -- a step that says nothing new
  idle : (parts : List (List ℕ)) (m : ItemsSoFar) (i : Item) (items : List Item) → keeps_rules (scenario_with n steps) (items_between begun ops parts) i ≡ true →
      with_item (scenario_with n steps) (items_between begun ops parts) i ≡ items_between begun ops parts → Goes n steps (items_between begun ops parts) items m →
      Goes n steps (items_between begun ops parts) (i ∷ items) m
  idle parts m i items keeps same goes =
      one n steps (items_between begun ops parts) (items_between begun ops parts) m i items keeps
      (ap close_step same ∙ closed n steps begun ops parts) goes

  both_are : (a b : Bool) → a ≡ true → b ≡ true → (a && b) ≡ true
  both_are a b e f = rw (e, f) refl

  ends_cut_off : (name : List ℕ) (c : ℕ) → Fits c → is_begun begun name [] ≡ true → Goes n steps calm (cut_off name c) calm
  ends_cut_off name c fit known =
      one n steps calm (items_between begun ops ((c ∷ []) ∷ others c five ∷ [])) calm (item.Split ((c ∷ []) ∷ others c five ∷ [])) _
      (fit.parts n steps) (closed n steps begun ops ((c ∷ []) ∷ others c five ∷ []))
      (idle ((c ∷ []) ∷ others c five ∷ []) calm (item.Commit name) _ known refl
      (idle ((c ∷ []) ∷ others c five ∷ []) calm (item.Recover (others c five)) _ (both_are _ _ (fit.rest n steps) fit.one_part) refl
      (one n steps (items_between begun ops ((c ∷ []) ∷ others c five ∷ [])) calm calm item.Merge (item.Recover five ∷ []) refl (closed n steps begun ops (five ∷ []))
      (idle (five ∷ []) calm (item.Recover five) [] refl refl (nowhere n steps calm)))))

  ends_crashed : (name : List ℕ) (site : ℕ) → exist (scenario_with n steps) (site ∷ []) ≡ true → is_begun begun name [] ≡ true → Goes n steps calm (crashed name site) calm
  ends_crashed name site here known =
      idle (five ∷ []) calm (item.Crash site) _ here refl
      (idle (five ∷ []) calm (item.Restart site) _ here refl
      (idle (five ∷ []) calm (item.Commit name) [] known refl (nowhere n steps calm)))

  ends_stopped : (name : List ℕ) (c : ℕ) → Fits c → is_begun begun name [] ≡ true → Goes n steps calm (stopped name c) calm
  ends_stopped name c fit known =
      idle (five ∷ []) calm (item.Stop c 8 leave.All) _ (both_are _ _ (fit.here n steps) refl) refl
      (idle (five ∷ []) calm (item.Commit name) _ known refl
      (idle (five ∷ []) calm (item.Recover (others c five)) _ (both_are _ _ (fit.rest n steps) fit.whole) refl
      (idle (five ∷ []) calm (item.Restart c) _ (fit.here n steps) refl
      (idle (five ∷ []) calm (item.Recover five) [] refl refl (nowhere n steps calm)))))

  ends : (digit : ℕ) (name : List ℕ) (c : ℕ) → Fits c → is_begun begun name [] ≡ true → Goes n steps calm (last_items digit name c) calm
  ends digit name c fit known = by (digit == 0) (digit == 3) (digit == 5) (digit == 7)
    where
      by : (a b d e : Bool) → Goes n steps calm (if a then item.Cancel name ∷ [] else if b then cut_off name c else if d then crashed name (fellow c) else if e then stopped name c else item.Commit name ∷ []) calm
      by true b d e = idle (five ∷ []) calm (item.Cancel name) [] known refl (nowhere n steps calm)
      by false true d e = ends_cut_off name c fit known
      by false false true e = ends_crashed name (fellow c) (fit.beside n steps) known
      by false false false true = ends_stopped name c fit known
      by false false false false = idle (five ∷ []) calm (item.Commit name) [] known refl (nowhere n steps calm)

-- names of other numbers differ
names_differ : (i j : ℕ) → i < 2 ^ 64 → j < 2 ^ 64 → i ≢ j → same_numbers (txn_name i) (txn_name j) ≡ false
unfolding txn_name
names_differ i j small less other = by (same_numbers (txn_name i) (txn_name j)) refl
  where
    by : (b : Bool) → same_numbers (txn_name i) (txn_name j) ≡ b → same_numbers (txn_name i) (txn_name j) ≡ false
    by false is = is
    by true is = absurd (other (decimal_injective i j small less (tail_same (same_numbers_eq (txn_name i) (txn_name j) is))))
      where
        tail_same : {x : ℕ} {xs ys : List ℕ} → x ∷ xs ≡ x ∷ ys → xs ≡ ys
        tail_same e = cc

-- what the items of the first transactions came to: none of the later names, and all sites are one part
record Behind (n k : ℕ) (steps : List (List Item)) : Type 0 where
  begun : List BegunName
  ops : List (List ℕ)
  goes : Goes n steps (items_between [] [] (five ∷ [])) (items_to n k) (items_between begun ops (five ∷ []))
  free : (j : ℕ) → k < j → j < 2 ^ 64 → is_begun begun (txn_name j) [] ≡ false
  none : (j : ℕ) → k < j → j < 2 ^ 64 → count_ops ops (txn_name j) ≡ 0

module _ (n k : ℕ) (steps : List (List Item)) (was : Behind n k steps) (small : suc k < 2 ^ 64) where
  abbrev own_name : List ℕ
  own_name = txn_name (suc k)

  -- what was begun with the transaction
  abbrev more_begun : ℕ → List BegunName
  more_begun c = was.begun ++ record { name = own_name; sites = sites_of c } ∷ []

  -- what the transaction's operations and its items lead to
  record Grown (c : ℕ) (words : List RecordWords) : Type 0 where
    done : AllDone n steps (more_begun c) was.ops (five ∷ []) own_name (operations own_name words (sites_of c))
    goes : Goes n steps (items_between was.begun was.ops (five ∷ [])) (items_at (suc k) c words) (items_between (more_begun c) done.now (five ∷ []))

  not_false : (b : Bool) → b ≡ false → not b ≡ true
  not_false b e = rw e refl

  within_one : (s c : ℕ) → has_site (sites_of c) s ≡ true → is_within (s ∷ []) (sites_of c) ≡ true
  within_one s c has = both_are n steps [] [] (has_site (sites_of c) s) true has refl

  txn_goes : (c : ℕ) (words : List RecordWords) → Fits c → Grown c words
  txn_goes c words fit =
      let none : count_ops was.ops own_name ≡ 0 = was.none (suc k) (omega arith) small in
      let three = fit.three in
      let done : AllDone n steps (more_begun c) was.ops (five ∷ []) own_name (operations own_name words (sites_of c)) =
      operate n steps (more_begun c) was.ops (five ∷ []) own_name (sites_of c) words
      (λ s has. begun_last was.begun own_name (sites_of c) (s ∷ []) (within_one s c has)) (omega (arith, none, three)) in
      record {
        done = done;
        goes =
            one n steps (items_between was.begun was.ops (five ∷ [])) (items_between (more_begun c) was.ops (five ∷ [])) (items_between (more_begun c) done.now (five ∷ []))
            (item.Begin own_name c (sites_of c)) (operations own_name words (sites_of c) ++ last_items (suc k % 10) own_name c)
            (both_are n steps [] [] (is_group (scenario_with n steps) (sites_of c) && has_site (sites_of c) c) (not (is_begun (was.begun ++ []) own_name []))
            (both_are n steps [] [] (is_group (scenario_with n steps) (sites_of c)) (has_site (sites_of c) c) (fit.group n steps) fit.has)
            (not_false (is_begun (was.begun ++ []) own_name []) (ap (λ b. is_begun b own_name []) (append-nil was.begun) ∙ was.free (suc k) (omega arith) small)))
            refl
            (followed n steps (items_between (more_begun c) was.ops (five ∷ [])) (items_between (more_begun c) done.now (five ∷ [])) (items_between (more_begun c) done.now (five ∷ []))
            (operations own_name words (sites_of c)) (last_items (suc k % 10) own_name c) done.goes
            (ends n steps (more_begun c) done.now (suc k % 10) own_name c fit (begun_last was.begun own_name (sites_of c) [] refl)));
      }

  other_name : (j : ℕ) → suc k < j → j < 2 ^ 64 → same_numbers (txn_name j) own_name ≡ false
  other_name j more less = names_differ j (suc k) less small (λ e. omega (arith, more, e))

  one_more : (c : ℕ) (words : List RecordWords) → Fits c → items_to n (suc k) ≡ items_to n k ++ items_at (suc k) c words → Behind n (suc k) steps
  one_more c words fit same =
      let grown = txn_goes c words fit in
      record {
        begun = more_begun c;
        ops = grown.done.now;
        goes = subst (λ (items : List Item). Goes n steps (items_between [] [] (five ∷ [])) items (items_between (more_begun c) grown.done.now (five ∷ []))) (sym same)
            (followed n steps (items_between [] [] (five ∷ [])) (items_between was.begun was.ops (five ∷ [])) (items_between (more_begun c) grown.done.now (five ∷ []))
            (items_to n k) (items_at (suc k) c words) was.goes grown.goes);
        free = λ j more less. new_still was.begun (txn_name j) own_name (sites_of c) (was.free j (omega (arith, more)) less) (other_name j more less);
        none = λ j more less. grown.done.did.others_same (txn_name j) (other_name j more less) ∙ was.none j (omega (arith, more)) less;
      }

behind : (n k : ℕ) (steps : List (List Item)) → k < 2 ^ 64 → Behind n k steps
behind n zero steps small = record {
  begun = [];
  ops = [];
  goes = nowhere n steps (items_between [] [] (five ∷ []));
  free = λ j more less. refl;
  none = λ j more less. refl;
}
behind n (suc k) steps small =
    let c : ℕ = coordinator (txn_words (behind_txns n k)).coordinator in
    one_more n k steps (behind n k steps (omega (arith, small))) small (coordinator (txn_words (behind_txns n k)).coordinator) (txn_words (behind_txns n k)).records
    (fits (coordinator (txn_words (behind_txns n k)).coordinator) (omega arith) (at_most (txn_words (behind_txns n k)).coordinator)) refl
  where
    at_most : (w : ℕ) → w % 5 + 1 ≤ 5
    at_most w = let less : w % 5 < 5 = mod_below w 5 (omega arith) in omega (arith, less)

-- the generated scenario of a number keeps the rules
pub given : (n : ℕ) → n < 2 ^ 64 → IsGiven (generated_scenario n)
given n small =
    let all = behind n n (map step_of (items_to n n)) small in
    record {
      some = omega arith;
      few = omega arith;
      weighed = refl;
      rows_at_sites = refl;
      rows_differ = refl;
      odds = omega arith;
      steps = subst (λ (z : List (List Item)). steps_keep (generated_scenario n) (items_between [] [] (five ∷ [])) z ≡ true) (append-nil (map step_of (items_to n n))) (all.goes.keep [] refl);
    }
