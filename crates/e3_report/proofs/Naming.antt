-- The names that are bound so far are those of the history.
use Rattle.std.specs.Prelude.{◌≡◌, ◌==◌, ◌+◌, ◌++◌, ◌∷◌, [], cond, ℕ, Bool, true, false, List, Option, Some, None, count_by, fold, slice_get, unwrap_or}
use Rattle.std.specs.BTreeMap.{insert_entry}
use Rattle.std.specs.Cmp.Lexicographic.{slice_cmp}
use Rattle.std.specs.Ordering.{nat_cmp}
use Rattle.std.proofs.Common.{refl, ap, sym, subst, ◌∙◌, arith, append-nil, append_assoc, eqb-true}
use Rattle.std.proofs.lemmas.Grind.{fold-append, common_steps}
use Rattle.std.proofs.Math.Path.{fun_ext}
use Rattle.e3_types.specs.declared.entries.Act.{Act}
use Rattle.e3_types.specs.declared.entries.Act.TheVariants.{Step, Fall, Rise, RiseFall, Miss, Cut, Drop, Parts, Line}
use Rattle.e3_types.specs.declared.entries.Entry.{Entry}
use Rattle.e3_types.specs.declared.entries.Input.TheVariants as input
use Rattle.e3_types.specs.declared.entries.Told.{Told}
use Rattle.e3_types.specs.declared.scenarios.Item.{Item}
use Rattle.e3_types.specs.declared.scenarios.Scenario.{Scenario}
use Rattle.e3_types.specs.declared.transactions.Txn.{Txn}
use Rattle.e3_types.specs.Same.{same_numbers}
use Rattle.e3_world.specs.declared.names.Binding.{Binding}
use Rattle.e3_world.specs.declared.names.Bound.{Bound}
use Rattle.e3_world.specs.Items.{begin_names, binds, binding_by, last_bound, txn_of}
use Rattle.e3_world.specs.Packets.{step_items}
use Rattle.e3_order.specs.Keys.{at_key, at_number}
use Rattle.e3_report.specs.Names.{Naming, no_naming, meant, begins, and_bound, and_begin, naming_act, naming_by}
use Rattle.e3_order.proofs.Maps.{key_inserted, number_inserted}

-- before the first entry of a history no name is bound
abbrev no_binding : Binding
no_binding = record { number = 0; begun_at = []; bound = [] }

-- the transaction that a name is bound to: the last of that name
abbrev named : List Bound → List ℕ → Option Txn
named bound name = fold (last_bound name) None bound

-- the map tells what is bound
record Tells (b : Binding) (w : Naming) : Type 0 where
  has_number : w.number ≡ b.number
  has_begun : (s : ℕ) → begins s w.begun ≡ count_by (λ x. x == s) b.begun_at
  has_bound : (q : List ℕ) → meant w q ≡ named b.bound q

-- one more name that is bound
one_bound : (q : List ℕ) (was : List (List ℕ × Txn)) (bound : List Bound) (b : Bound) → at_key q was ≡ named bound q →
    at_key q (insert_entry (slice_cmp nat_cmp) was b.name b.txn) ≡ named (bound ++ b ∷ []) q
one_bound q was bound b e =
    key_inserted q b.name b.txn was ∙ ap (cond (same_numbers q b.name) (Some b.txn)) e ∙ sym (fold-append (last_bound q) None bound (b ∷ []))

-- more names that are bound
more_bound : (q : List ℕ) (was : List (List ℕ × Txn)) (bound new : List Bound) → at_key q was ≡ named bound q →
    at_key q (and_bound was new) ≡ named (bound ++ new) q
more_bound q was bound [] e = e ∙ ap (λ l. named l q) (sym (append-nil bound))
more_bound q was bound (b ∷ new) e =
    more_bound q (insert_entry (slice_cmp nat_cmp) was b.name b.txn) (bound ++ b ∷ []) new (one_bound q was bound b e)
    ∙ ap (λ l. named l q) (append_assoc bound (b ∷ []) new)

-- one more begin of a site
begun_at : (s site n : ℕ) (begun : List (ℕ × ℕ)) (sites : List ℕ) (same : Bool) → (site == s) ≡ same →
    begins s begun ≡ count_by (λ x. x == s) sites → n ≡ count_by (λ x. x == site) sites →
    unwrap_or (cond same (Some (n + 1)) (at_number s begun)) 0 ≡ count_by (λ x. x == s) (sites ++ site ∷ [])
begun_at s site n begun sites true is e f = let same : site ≡ s = eqb-true site s is in grind (arith, common_steps, f, same)
begun_at s site n begun sites false is e f = grind (arith, common_steps, e, is)

more_begun : (s site : ℕ) (begun : List (ℕ × ℕ)) (sites : List ℕ) → begins s begun ≡ count_by (λ x. x == s) sites →
    begins site begun ≡ count_by (λ x. x == site) sites →
    begins s (insert_entry nat_cmp begun site (begins site begun + 1)) ≡ count_by (λ x. x == s) (sites ++ site ∷ [])
more_begun s site begun sites e f =
    ap (λ o. unwrap_or o 0) (number_inserted s site (begins site begun + 1) begun)
    ∙ begun_at s site (begins site begun) begun sites (site == s) refl e f

-- a begin
begin_push : (site : ℕ) (items : List Item) (events : List Told) (b : Binding) (w : Naming) (n : ℕ) → n ≡ w.number → Tells b w →
    Tells (record {
      number = n;
      begun_at = b.begun_at ++ site ∷ [];
      bound = b.bound ++ binds (slice_get (begin_names site items) (count_by (λ s. s == site) b.begun_at)) events;
    }) (and_begin site items events w)
begin_push site items events b w n is t = record {
  has_number = sym is;
  has_begun = λ s. more_begun s site w.begun b.begun_at (t.has_begun s) (t.has_begun site);
  has_bound = λ q.
      more_bound q w.bound b.bound (binds (slice_get (begin_names site items) (begins site w.begun)) events) (t.has_bound q)
      ∙ ap (λ k. named (b.bound ++ binds (slice_get (begin_names site items) k) events) q) (t.has_begun site);
}

-- one more act
act_push : (sc : Scenario) (b : Binding) (w : Naming) (owner : ℕ) (act : Act) → Tells b w →
    Tells (binding_by sc b (record { owner = owner; act = act })) (naming_act sc owner w act)
act_push sc b w owner (Line number) t = record { has_number = refl; has_begun = λ s. refl; has_bound = t.has_bound }
act_push sc b w owner (Step (input.Begin sites) records outs events) t =
    let P : ℕ → Type 0 = λ n. Tells (record {
      number = b.number;
      begun_at = b.begun_at ++ owner ∷ [];
      bound = b.bound ++ binds (slice_get (begin_names owner (step_items sc n)) (count_by (λ s. s == owner) b.begun_at)) events;
    }) (and_begin owner (step_items sc w.number) events w) in
    subst P t.has_number (begin_push owner (step_items sc w.number) events b w b.number (sym t.has_number) t)
act_push sc b w owner (Step (input.Do txn op) records outs events) t = t
act_push sc b w owner (Step (input.Commit txn) records outs events) t = t
act_push sc b w owner (Step (input.Cancel txn) records outs events) t = t
act_push sc b w owner (Step (input.Expire txn) records outs events) t = t
act_push sc b w owner (Step (input.Elect txn group) records outs events) t = t
act_push sc b w owner (Step (input.Deliver packet) records outs events) t = t
act_push sc b w owner (Fall inputs records why) t = t
act_push sc b w owner (Rise kept inc) t = t
act_push sc b w owner (RiseFall kept inc why) t = t
act_push sc b w owner Miss t = t
act_push sc b w owner Cut t = t
act_push sc b w owner (Drop packet) t = t
act_push sc b w owner (Parts parts) t = t

-- what holds of more entries
told_after : (sc : Scenario) (b : Binding) (w : Naming) (entries : List Entry) → Tells b w →
    Tells (fold (binding_by sc) b entries) (fold (naming_by sc) w entries)
told_after sc b w [] t = t
told_after sc b w (e ∷ entries) t = told_after sc (binding_by sc b e) (naming_by sc w e) entries (act_push sc b w e.owner e.act t)

-- each name means what the history bound it to
pub names_mean : (sc : Scenario) (h : List Entry) → meant (fold (naming_by sc) no_naming h) ≡ txn_of sc h
names_mean sc h =
    fun_ext (λ q. (told_after sc no_binding no_naming h (record { has_number = refl; has_begun = λ s. refl; has_bound = λ n. refl })).has_bound q)
