-- What a walk over records reads and finds.
use Rattle.std.specs.Prelude.{◌≡◌, ◌<◌, ◌+◌, ◌++◌, ◌∷◌, [], ℕ, true, false, List, length, take, drop, Option, Some, MatchOption}
use Rattle.std.proofs.Common.{refl, ap, sym, subst, ◌∙◌, arith, get_or}
use Rattle.std.proofs.lemmas.Grind.{common_steps}
use Rattle.std.proofs.lemmas.List.Sums.{fold-append}
use Rattle.e3_types.specs.declared.records.Record.{Record}
use Rattle.e3_world.specs.Logs.{logged_inc, logged_inc_by}
use Rattle.e3_world.specs.Orderly.{weights_by, IsOrderly}
use Rattle.e3_site.specs.declared.past.logged.Logged.{Logged}
use Rattle.e3_site.specs.past.Standing.{LoggedStand}
use Rattle.e3_site.specs.Orderly.{IsFirstDisorder, disorder_after, disorder_in, is_orderly_next}
use Rattle.e3_site.specs.Reading.{AreRead, IsLogRead}
use Rattle.e3_site.proofs.Firsts.{disorder_found}
use Rattle.e3_site.proofs.Known.{orderly_known, read_one_more}

take_more : (xs : List Record) (k : ℕ) (x : Record) → k < length xs → x ≡ get_or xs k x → take (k + 1) xs ≡ take k xs ++ x ∷ []
take_more xs k x lt is = grind (arith, common_steps, lt, is)

drop_more : (xs : List Record) (k : ℕ) (x : Record) → k < length xs → x ≡ get_or xs k x → drop k xs ≡ x ∷ drop (k + 1) xs
drop_more xs k x lt is = grind (arith, common_steps, lt, is)

take_length : (xs : List Record) (k : ℕ) → k < length xs → length (take k xs) ≡ k
take_length xs k lt = grind (arith, common_steps, lt)

take_whole : (xs : List Record) (k : ℕ) → k ≡ length xs → take k xs ≡ xs
take_whole xs k e = grind (arith, common_steps, e)

drop_whole : (xs : List Record) (k : ℕ) → k ≡ length xs → drop k xs ≡ []
drop_whole xs k e = grind (arith, common_steps, e)

-- one more record is read
pub read_more : (site rising : ℕ) (records : List Record) (k : ℕ) (r : Record) (was now : Logged) (inc next : ℕ) (weights more : List ℕ) → k < length records → r ≡ get_or records k r
    → ((s i : ℕ) → (log : List Record) → LoggedStand s was i log → LoggedStand s now i (log ++ r ∷ [])) → next ≡ logged_inc_by inc r → more ≡ weights_by weights r
    → is_orderly_next site (take k records) r ≡ true → AreRead site rising (take k records) was inc weights → AreRead site rising (take (k + 1) records) now next more
read_more site rising records k r was now inc next weights more lt is reads incs weighs may are =
    let P : List Record → Type 0 = λ l. AreRead site rising l now next more in
    subst P (sym (take_more records k r lt is)) (record {
      stand = reads site rising (take k records) are.stand;
      in_turn = read_one_more site (take k records) r are.in_turn may;
      inc_is = incs ∙ ap (λ (n : ℕ). logged_inc_by n r) are.inc_is ∙ sym (fold-append logged_inc_by 0 (take k records) (r ∷ []));
      weights_are = weighs ∙ ap (λ (ws : List ℕ). weights_by ws r) are.weights_are ∙ sym (fold-append weights_by [] (take k records) (r ∷ []));
    })

-- no record is read yet
pub read_none : (site rising : ℕ) (records : List Record) (read : Logged) → LoggedStand site read rising [] → AreRead site rising (take 0 records) read 0 []
read_none site rising records read stand = record { stand = stand; in_turn = refl; inc_is = refl; weights_are = refl }

-- the walk goes on behind a record that may stand there
pub goes_on : (site : ℕ) (records : List Record) (k : ℕ) (r : Record) → k < length records → r ≡ get_or records k r → is_orderly_next site (take k records) r ≡ true
    → disorder_in site records ≡ disorder_after site (take k records) (drop k records) → disorder_in site records ≡ disorder_after site (take (k + 1) records) (drop (k + 1) records)
goes_on site records k r lt is may so =
    so ∙ ap (disorder_after site (take k records)) (drop_more records k r lt is) ∙ rw may refl
    ∙ ap (λ (l : List Record). disorder_after site l (drop (k + 1) records)) (sym (take_more records k r lt is))

-- it ends at a record that may not
pub found_at : (site : ℕ) (records : List Record) (k : ℕ) (r : Record) → k < length records → r ≡ get_or records k r → is_orderly_next site (take k records) r ≡ false
    → disorder_in site records ≡ disorder_after site (take k records) (drop k records) → IsFirstDisorder site records k
found_at site records k r lt is may so =
    let here : disorder_after site (take k records) (r ∷ drop (k + 1) records) ≡ Some (length (take k records)) = rw may refl in
    let at : disorder_in site records ≡ Some k =
    so ∙ ap (disorder_after site (take k records)) (drop_more records k r lt is) ∙ here ∙ ap (λ (n : ℕ). let o : Option ℕ = Some n in o) (take_length records k lt) in
    let P : Option ℕ → Type 0 = λ o. MatchOption o (IsOrderly site records) (IsFirstDisorder site records) in
    subst P at (disorder_found site records)

-- or at the end of the log
pub found_none : (site : ℕ) (records : List Record) (k : ℕ) → k ≡ length records → disorder_in site records ≡ disorder_after site (take k records) (drop k records)
    → IsOrderly site records
found_none site records k all so =
    let P : Option ℕ → Type 0 = λ o. MatchOption o (IsOrderly site records) (IsFirstDisorder site records) in
    subst P (so ∙ ap (disorder_after site (take k records)) (drop_whole records k all)) (disorder_found site records)

-- all of which is read then
pub read_all : (site rising : ℕ) (records : List Record) (k : ℕ) (read : Logged) (inc : ℕ) (weights : List ℕ) → k ≡ length records → rising ≡ logged_inc records
    → AreRead site rising (take k records) read inc weights → LoggedStand site read (logged_inc records) records
read_all site rising records k read inc weights all rises are =
    let P : ℕ → Type 0 = λ n. LoggedStand site read n records in
    let Q : List Record → Type 0 = λ l. LoggedStand site read rising l in
    subst P rises (subst Q (take_whole records k all) are.stand)

-- and the names of a log are known
pub log_read : (site : ℕ) (records : List Record) (read : Logged) → IsOrderly site records → LoggedStand site read (logged_inc records) records → IsLogRead site records read
log_read site records read orderly stand = record { orderly = orderly; stand = stand; known = orderly_known site (logged_inc records) records read stand orderly }
