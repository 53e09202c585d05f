-- The open transactions are the same, each once and ascending.
use Rattle.std.proofs.Common.{◌≡◌, ◌==◌, ◌&&◌, ◌||◌, ◌++◌, ◌∷◌, [], ℕ, Bool, true, false, List, refl, sym, ap, ◌∙◌, append_assoc, arith, true≢false, if◌then◌else◌, fold, filter, map, nat_lt}
use Rattle.std.specs.List.{flat_map, AllByRecursion as Each}
use Rattle.std.proofs.lemmas.Grind.{common_steps, fold-append}
use Rattle.e3_types.specs.declared.records.Record.{Record}
use Rattle.e3_types.specs.declared.transactions.Txn.{Txn}
use Rattle.e3_types.specs.Same.{same_txn, is_older}
use Rattle.e3_types.specs.Sites.{bits_of}
use Rattle.e3_world.specs.declared.lives.Asked.{Asked}
use Rattle.e3_world.specs.declared.lives.Life.{Life}
use Rattle.e3_world.specs.declared.lives.Moment.{Moment}
use Rattle.e3_world.specs.Items.{add_txn, began_in, known_txns, txn_of_record}
use Rattle.e3_world.specs.Logs.{is_undecided}
use Rattle.e3_world.specs.Operations.{arrivals}
use Rattle.e3_world.specs.Brief.{txns_of}
use Rattle.e3_laws.proofs.steps.Ascending.{Ascends, IsLater, ascends_fold, later_from, other_way}
use Rattle.e3_laws.proofs.steps.Each.{each-filter, each-weaker}
use Rattle.e3_laws.proofs.steps.Tests.{same_is}
use Rattle.e3_world.specs.Items.{undecided_in}
use Rattle.e3_laws.proofs.brief.Alike.Notes.{NotesAlike, notes_open}
use Rattle.e3_laws.proofs.brief.Alike.Twins.{Twin, arrivals_twins, began_twins, left, right}

-- what is older than one that a third is not older than is older than the third
abbrev before : ℕ → ℕ → Bool → Bool
before a b rest = nat_lt a b || (a == b && rest)

before_weak : (a b c : ℕ) (r s q : Bool) → (r ≡ true → s ≡ false → q ≡ true) → before a b r ≡ true → before c b s ≡ false → before a c q ≡ true
before_weak a b c r s q more e f = grind (arith, common_steps, more, e, f)

less_weak : (a b c : ℕ) → nat_lt a b ≡ true → nat_lt c b ≡ false → nat_lt a c ≡ true
less_weak a b c e f = grind (arith, common_steps, e, f)

older_weak : (t u v : Txn) → is_older t u ≡ true → is_older v u ≡ false → is_older t v ≡ true
older_weak t u v =
    before_weak t.site u.site v.site _ _ _
    (before_weak t.inc u.inc v.inc _ _ _
    (before_weak t.seq u.seq v.seq _ _ _ (less_weak (bits_of t.sites) (bits_of u.sites) (bits_of v.sites))))

-- one that is older than all goes ahead
record IsAheadOf (new t : Txn) : Type 0 where
  differs : same_txn t new ≡ false
  older : is_older new t ≡ true

goes_ahead : (ts : List Txn) (new : Txn) → Each (IsAheadOf new) ts → add_txn ts new ≡ new ∷ ts
goes_ahead [] new behind = refl
goes_ahead (t ∷ ts) new behind = rw (behind.0.differs, behind.0.older) refl

all_behind : (t : Txn) (ts : List Txn) (new : Txn) → same_txn t new ≡ false → is_older new t ≡ true → Each (IsLater t) ts → Each (IsAheadOf new) ts
all_behind t ts new differs older later = each-weaker (IsLater t) (IsAheadOf new)
    (λ v is. record { differs = other_way new v (later_from_older v is); older = older_weak new t v older is.not_older }) ts later
  where
    later_from_older : (v : Txn) → IsLater t v → same_txn new v ≡ false
    later_from_older v is = (later_from new t v older is).other

-- a filter of transactions that ascend, with one more
filter_add : (p : Txn → Bool) (ts : List Txn) (new : Txn) → Ascends ts → filter p (add_txn ts new) ≡ (if p new then add_txn (filter p ts) new else filter p ts)
filter_add p [] new up = refl
filter_add p (t ∷ ts) new up = by (filter_add p ts new up.1) (same_txn t new) refl (is_older new t) refl (p t) refl (p new) refl
  where
    by : filter p (add_txn ts new) ≡ (if p new then add_txn (filter p ts) new else filter p ts)
        → (b : Bool) → same_txn t new ≡ b → (c : Bool) → is_older new t ≡ c → (d : Bool) → p t ≡ d → (e : Bool) → p new ≡ e
        → filter p (add_txn (t ∷ ts) new) ≡ (if p new then add_txn (filter p (t ∷ ts)) new else filter p (t ∷ ts))
    by more true is c age true keeps true news = rw (is, keeps, news, is) refl
    by more true is c age false keeps false news = rw (is, keeps, news) refl
    by more true is c age true keeps false news = absurd (true≢false (sym keeps ∙ ap p (same_is t new is) ∙ news))
    by more true is c age false keeps true news = absurd (true≢false (sym news ∙ ap p (sym (same_is t new is)) ∙ keeps))
    by more false is true age true keeps true news = rw (is, age, news, keeps, is, age) refl
    by more false is true age true keeps false news = rw (is, age, news, keeps) refl
    by more false is true age false keeps true news = rw (is, age, news, keeps)
        (sym (goes_ahead (filter p ts) new (each-filter (IsAheadOf new) p ts (all_behind t ts new is age up.0))))
    by more false is true age false keeps false news = rw (is, age, news, keeps) refl
    by more false is false age true keeps true news = rw (is, age, keeps, news, is, age) (ap (λ (l : List Txn). t ∷ l) (more ∙ kept_in news))
      where
        kept_in : p new ≡ true → (if p new then add_txn (filter p ts) new else filter p ts) ≡ add_txn (filter p ts) new
        kept_in h = rw h refl
    by more false is false age true keeps false news = rw (is, age, keeps, news) (ap (λ (l : List Txn). t ∷ l) (more ∙ left_out news))
      where
        left_out : p new ≡ false → (if p new then add_txn (filter p ts) new else filter p ts) ≡ filter p ts
        left_out h = rw h refl
    by more false is false age false keeps e news = rw (is, age, keeps) more

filter_fold : (p : Txn → Bool) (ts xs : List Txn) → Ascends ts → filter p (fold add_txn ts xs) ≡ fold add_txn (filter p ts) (filter p xs)
filter_fold p ts [] up = refl
filter_fold p ts (x ∷ xs) up = filter_fold p (add_txn ts x) xs (ascends_fold ts (x ∷ []) up) ∙ ap (λ (l : List Txn). fold add_txn l (filter p xs)) (filter_add p ts x up) ∙ by (p x) refl
  where
    by : (b : Bool) → p x ≡ b → fold add_txn (if p x then add_txn (filter p ts) x else filter p ts) (filter p xs) ≡ fold add_txn (filter p ts) (filter p (x ∷ xs))
    by true is = rw is refl
    by false is = rw is refl

-- so the open ones of two lives with the same transactions are the same
pub opens_same : (site n : ℕ) (x y : List Record) (ts : List Twin) → NotesAlike x y → txns_of x ≡ txns_of y
    → fold add_txn [] (undecided_in site (record { log = x; inc = n; steps = left ts })) ≡ fold add_txn [] (undecided_in site (record { log = y; inc = n; steps = right ts }))
opens_same site n x y ts same txns =
    sym (filter_fold (λ t. is_undecided t x) [] (known_txns site one) tt)
    ∙ (λ i. filter (λ t. notes_open x y same t i) (known i))
    ∙ filter_fold (λ t. is_undecided t y) [] (known_txns site other) tt
  where
    one : Life
    one = record { log = x; inc = n; steps = left ts }

    other : Life
    other = record { log = y; inc = n; steps = right ts }

    began : List Moment → List Txn
    began steps = flat_map (λ (m : Moment). flat_map began_in m.told) steps

    came : List Moment → List Txn
    came steps = map (λ (a : Asked). a.txn) (arrivals site steps)

    known : fold add_txn [] (known_txns site one) ≡ fold add_txn [] (known_txns site other)
    known =
        ap (λ (l : List Txn). fold add_txn [] l) (append_assoc (flat_map txn_of_record x) (came (left ts)) (began (left ts)))
        ∙ fold-append add_txn [] (flat_map txn_of_record x) (came (left ts) ++ began (left ts))
        ∙ (λ i. fold add_txn (txns i) (map (λ (a : Asked). a.txn) (arrivals_twins site ts i) ++ began_twins ts i))
        ∙ sym (fold-append add_txn [] (flat_map txn_of_record y) (came (right ts) ++ began (right ts)))
        ∙ ap (λ (l : List Txn). fold add_txn [] l) (sym (append_assoc (flat_map txn_of_record y) (came (right ts)) (began (right ts))))
