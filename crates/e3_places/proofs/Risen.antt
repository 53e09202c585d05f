-- The tables of a log behind more records, before the first step.
use Rattle.std.specs.Prelude.{◌≡◌, ◌++◌, ◌∷◌, [], if◌then◌else◌, ℕ, Bool, true, false, List, None, fold, length}
use Rattle.std.proofs.Common.{refl, ap, sym, ◌∙◌}
use Rattle.e3_types.specs.declared.records.Record.{Record}
use Rattle.e3_types.specs.declared.records.Record.TheVariants as log
use Rattle.e3_types.specs.declared.transactions.Answer.{Answer}
use Rattle.e3_types.specs.declared.transactions.Answer.TheVariants.{Value}
use Rattle.e3_types.specs.declared.transactions.Row.{Row}
use Rattle.e3_types.specs.Locks.{front}
use Rattle.e3_types.specs.Same.{same_numbers}
use Rattle.e3_world.specs.declared.lives.Asked.{Asked}
use Rattle.e3_world.specs.Logs.{row_value}
use Rattle.e3_places.specs.declared.changing.Changes.{Changes}
use Rattle.e3_places.specs.declared.keys.TxnId.{TxnId}
use Rattle.e3_places.specs.declared.places.Claims.{Claims}
use Rattle.e3_places.specs.declared.places.Place.{Place}
use Rattle.e3_places.specs.declared.places.Places.{Places}
use Rattle.e3_places.specs.Standing.{held_with, wanted_with, is_on, is_of, claims_of, claims_by, place_of, place_by, follow}
use Rattle.e3_places.specs.Keeping.{no_claims, place_at, claims_at, PlacesStand, put_name, put_txn, AreChanges, ActAlike}
use Rattle.e3_places.specs.Granting.{RestlessStand}
use Rattle.e3_places.specs.Rising.{risen, first_row, RowsStand}
use Rattle.e3_places.proofs.Fronting.{take_none}
use Rattle.e3_places.proofs.Rowing.{row_more}
use Rattle.e3_places.proofs.Voting.{votes_more}

claims_more : (test : Asked → Bool) (site inc : ℕ) (records rs : List Record) → follow records rs ≡ true
    → claims_of test site (risen inc (records ++ rs)) ≡ claims_by test (claims_of test site (risen inc records)) None rs [] []
claims_more test site inc records rs h = let votes = votes_more test records rs h in λ i. record { standing = []; votes = votes i }

place_more : (name : List ℕ) (site inc : ℕ) (records rs : List Record) → follow records rs ≡ true
    → place_of name site (risen inc (records ++ rs)) ≡ place_by name (place_of name site (risen inc records)) None rs [] []
place_more name site inc records rs h =
    let claims = claims_more (is_on name) site inc records rs h in
    let row = row_more name records rs h in
    λ i. record { claims = claims i; row = row i }

-- The tables stand for the log with the records.
pub risen_on : (old now : Places) (changes : Changes) → ((name : List ℕ) → place_at now.names.entries name ≡ fold (put_name name) (place_at old.names.entries name) changes.names)
    → ((k : TxnId) → claims_at now.txns.entries k ≡ fold (put_txn k) (claims_at old.txns.entries k) changes.txns)
    → (site inc : ℕ) (records rs : List Record) → PlacesStand site old (risen inc records) → AreChanges old None rs [] [] changes → follow records rs ≡ true
    → PlacesStand site now (risen inc (records ++ rs))
risen_on old now changes names txns site inc records rs stands are h = record {
  names_stand = λ name. names name ∙ are.names name ∙ ap (λ (p : Place). place_by name p None rs [] []) (stands.names_stand name) ∙ sym (place_more name site inc records rs h);
  txns_stand = λ k. txns k ∙ are.txns k ∙ ap (λ (c : Claims). claims_by (is_of k) c None rs [] []) (stands.txns_stand k) ∙ sym (claims_more (is_of k) site inc records rs h);
}

-- tables that say the same act alike
pub act_alike : (old now : Places) (changes : Changes) → ((name : List ℕ) → place_at now.names.entries name ≡ place_at old.names.entries name)
    → ((k : TxnId) → claims_at now.txns.entries k ≡ claims_at old.txns.entries k) → ActAlike old now changes
act_alike old now changes names txns = record {
  stand = λ site life stands. record {
    names_stand = λ name. names name ∙ stands.names_stand name;
    txns_stand = λ k. txns k ∙ stands.txns_stand k;
  };
  are = λ new rs events outs are. record {
    names = λ name.
        ap (λ (p : Place). fold (put_name name) p changes.names) (names name) ∙ are.names name ∙ ap (λ (p : Place). place_by name p new rs events outs) (sym (names name));
    txns = λ k.
        ap (λ (c : Claims). fold (put_txn k) c changes.txns) (txns k) ∙ are.txns k ∙ ap (λ (c : Claims). claims_by (is_of k) c new rs events outs) (sym (txns k));
  };
}

-- the tables of an empty log
pub unborn_stands : (places : Places) → places.names.entries ≡ [] → places.txns.entries ≡ [] → (site inc : ℕ) → PlacesStand site places (risen inc [])
unborn_stands places e f site inc = record {
  names_stand = λ name. ap (λ (l : List (List ℕ × Place)). place_at l name) e;
  txns_stand = λ k. ap (λ (l : List (TxnId × Claims)). claims_at l k) f;
}

-- the tables of a birth
pub born_stands : (places : Places) (format of_site : ℕ) (weights : List ℕ) (rows : List Row) → RowsStand places.names.entries rows → places.txns.entries ≡ []
    → (site inc : ℕ) → PlacesStand site places (risen inc (log.Birth format of_site weights rows ∷ []))
born_stands places format of_site weights rows stand f site inc = record {
  names_stand = λ name. stand name;
  txns_stand = λ k. ap (λ (l : List (TxnId × Claims)). claims_at l k) f;
}

-- a row in front of others
pub row_first : (ms ns : List (List ℕ × Place)) (rows : List Row) (row : Row) → RowsStand ms rows
    → ((name : List ℕ) → place_at ns name ≡ first_row name row (place_at ms name)) → RowsStand ns (row ∷ rows)
row_first ms ns rows row stand h = λ name. h name ∙ ap (first_row name row) (stand name) ∙ by name (same_numbers name row.name)
  where
    with_row : Answer → Place
    with_row x = record { claims = no_claims; row = x }

    by : (name : List ℕ) (b : Bool) → (if b then with_row (Value row.val) else with_row (row_value name rows)) ≡ with_row (if b then Value row.val else row_value name rows)
    by name true = refl
    by name false = refl

-- nothing can be granted
pub none_restless : (site inc : ℕ) (records : List Record) → RestlessStand site [] (risen inc records)
none_restless site inc records name e =
    let claims : Claims = claims_of (is_on name) site (risen inc records) in take_none (length (front (held_with name [] claims) (wanted_with [] claims))) [] refl
