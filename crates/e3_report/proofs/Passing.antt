-- What the loop over the entries of a history has passed.
use Rattle.std.specs.Prelude.{◌≡◌, ◌++◌, ◌∷◌, [], ◌+◌, ◌-◌, ◌<◌, ℕ, suc, List, length, take, drop, fold, slice_index_or}
use Rattle.std.proofs.Common.{refl, add-one, append_assoc, ap, sym, ◌∙◌, arith}
use Rattle.std.proofs.lemmas.Grind.{fold-append, common_steps}
use Rattle.std.proofs.Math.Path.{fun_ext}
use Rattle.std.proofs.Math.Seq.{drop-cons, take-suc}
use Rattle.e3_types.specs.declared.entries.Entry.{Entry}
use Rattle.e3_types.specs.declared.scenarios.Scenario.{Scenario}
use Rattle.e3_world.specs.Items.{txn_of}
use Rattle.e3_report.specs.Names.{Naming, no_naming, meant, naming_by}
use Rattle.e3_report.specs.Steps.{up_after, lines_by, steps_after}
use Rattle.e3_report.specs.Ups.{up_in, up_with}
use Rattle.e3_report.proofs.Naming.{names_mean}
use Rattle.e3_report.proofs.UpSets.{up_push}

-- the names behind the entry at this place
pub names_one : (sc : Scenario) (h : List Entry) (at : ℕ) (e : Entry) (was now : Naming) → at < length h → e ≡ slice_index_or h at e →
    was ≡ fold (naming_by sc) no_naming (take at h) → now ≡ naming_by sc was e →
    now ≡ fold (naming_by sc) no_naming (take (at + 1) h)
names_one sc h at e was now lt is before one =
    let t : take (suc at) h ≡ take at h ++ e ∷ [] = take-suc h at e lt ∙ ap (λ x. take at h ++ x ∷ []) (sym is) in
    rw (add-one, t, fold-append, sym before) one

-- the sites that are up behind the entry at this place
pub ups_one : (h : List Entry) (at : ℕ) (e : Entry) (was now : List ℕ) → at < length h → e ≡ slice_index_or h at e →
    ((s : ℕ) → up_in was s ≡ up_after (take at h) s) → ((s : ℕ) → up_in now s ≡ up_with s e (up_in was s)) →
    (s : ℕ) → up_in now s ≡ up_after (take (at + 1) h) s
ups_one h at e was now lt is before one s =
    let t : take (suc at) h ≡ take at h ++ e ∷ [] = take-suc h at e lt ∙ ap (λ x. take at h ++ x ∷ []) (sym is) in
    rw (add-one, t) (one s ∙ ap (up_with s e) (before s) ∙ sym (up_push s (take at h) e))

-- the step of the entry at this place, and the steps behind it
steps_one : (sc : Scenario) (h : List Entry) (at : ℕ) (e : Entry) → at < length h → e ≡ slice_index_or h at e →
    steps_after sc (take at h) (drop at h)
    ≡ lines_by (txn_of sc (take (at + 1) h)) (up_after (take (at + 1) h)) sc e.act (drop (at + 1) h)
    ++ steps_after sc (take (at + 1) h) (drop (at + 1) h)
steps_one sc h at e lt is =
    let d : drop at h ≡ e ∷ drop (suc at) h = drop-cons h at e lt ∙ ap (λ x. x ∷ drop (suc at) h) (sym is) in
    let t : take (suc at) h ≡ take at h ++ e ∷ [] = take-suc h at e lt ∙ ap (λ x. take at h ++ x ∷ []) (sym is) in
    rw (add-one, d, t) refl

-- the rest of a list
rest_is : (k : ℕ) (h : List Entry) → take (length h - k) (drop k h) ≡ drop k h
rest_is k h = grind (arith, common_steps)

-- the text behind the entry at this place
pub text_one : (sc : Scenario) (h : List Entry) (at : ℕ) (e : Entry) (now : Naming) (ups : List ℕ) (out new start : List ℕ) →
    at < length h → e ≡ slice_index_or h at e → now ≡ fold (naming_by sc) no_naming (take (at + 1) h) →
    ((s : ℕ) → up_in ups s ≡ up_after (take (at + 1) h) s) →
    new ≡ out ++ lines_by (meant now) (up_in ups) sc e.act (take (length h - (at + 1)) (drop (at + 1) h)) →
    out ++ steps_after sc (take at h) (drop at h) ≡ start →
    new ++ steps_after sc (take (at + 1) h) (drop (at + 1) h) ≡ start
text_one sc h at e now ups out new start lt is names stand one before =
    ap (λ l. l ++ steps_after sc (take (at + 1) h) (drop (at + 1) h))
    (one ∙ ap (λ r. out ++ lines_by (meant now) (up_in ups) sc e.act r) (rest_is (at + 1) h)
    ∙ ap (λ n. out ++ lines_by n (up_in ups) sc e.act (drop (at + 1) h)) (ap meant names ∙ names_mean sc (take (at + 1) h))
    ∙ ap (λ u. out ++ lines_by (txn_of sc (take (at + 1) h)) u sc e.act (drop (at + 1) h)) (fun_ext stand))
    ∙ append_assoc out (lines_by (txn_of sc (take (at + 1) h)) (up_after (take (at + 1) h)) sc e.act (drop (at + 1) h))
    (steps_after sc (take (at + 1) h) (drop (at + 1) h))
    ∙ ap (λ l. out ++ l) (sym (steps_one sc h at e lt is)) ∙ before
