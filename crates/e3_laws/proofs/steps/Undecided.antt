-- A decision stays, whatever records come.
use Rattle.std.proofs.Common.{◌≡◌, ◌++◌, ◌∷◌, [], Bool, true, false, List, refl, sym, ap, ◌∙◌, if◌then◌else◌, fold}
use Rattle.std.specs.Prelude.{Option, Some, None, is_none}
use Rattle.std.proofs.lemmas.List.Sums.{fold-append}
use Rattle.e3_types.specs.declared.records.Record.{Record}
use Rattle.e3_types.specs.declared.records.Record.TheVariants as log
use Rattle.e3_types.specs.declared.transactions.Dir.{Dir}
use Rattle.e3_types.specs.declared.transactions.Txn.{Txn}
use Rattle.e3_types.specs.Same.{same_txn}
use Rattle.e3_world.specs.Logs.{decision, decision_by, is_undecided}

pub stays : (t : Txn) (dir : Dir) (rs : List Record) → is_none (fold (decision_by t) (Some dir) rs) ≡ false
stays t dir [] = refl
stays t dir (log.Decision u d ∷ rs) = by (same_txn t u) refl (stays t d rs) (stays t dir rs)
  where
    by : (b : Bool) → same_txn t u ≡ b → is_none (fold (decision_by t) (Some d) rs) ≡ false → is_none (fold (decision_by t) (Some dir) rs) ≡ false →
        is_none (fold (decision_by t) (if same_txn t u then Some d else Some dir) rs) ≡ false
    by true is one other = rw is one
    by false is one other = rw is other
stays t dir (r ∷ rs) = stays t dir rs

-- what more records leave undecided was so before
pub open_before : (t : Txn) (l rs : List Record) → is_undecided t (l ++ rs) ≡ true → is_undecided t l ≡ true
open_before t l rs is = by (decision t l) refl
  where
    by : (d : Option Dir) → decision t l ≡ d → is_undecided t l ≡ true
    by None e = ap is_none e
    by (Some d) e =
        let kept : is_undecided t (l ++ rs) ≡ false = ap is_none (fold-append (decision_by t) None l rs ∙ ap (λ (x : Option Dir). fold (decision_by t) x rs) e) ∙ stays t d rs in
        absurd (let no : true ≡ false = sym is ∙ kept in cc)
