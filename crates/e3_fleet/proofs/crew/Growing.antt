-- Histories that grow by entries of sites.
use Rattle.std.proofs.Common.{◌≡◌, ◌==◌, ◌≤◌, ◌++◌, ◌∷◌, [], ℕ, zero, suc, Bool, true, false, List, length, refl, sym, ap, subst, ◌∙◌, arith, append-nil, append_assoc, eqb-true}
use Rattle.std.proofs.lemmas.Bool.{ne_eqb}
use Rattle.e3_laws.specs.local.Least.{AreOfSites}
use Rattle.e3_laws.specs.local.Others.{AreOthers}
use Rattle.e3_laws.proofs.local.Alike.{Alike, DoneAt, all_on, lines_still}
use Rattle.e3_laws.proofs.local.Due.{inputs_same, turn_same}
use Rattle.e3_laws.proofs.local.Laws.{legal_behind}
use Rattle.e3_node.specs.Turns.{Meanwhile}
use Rattle.e3_types.specs.declared.entries.Entry.{Entry}
use Rattle.e3_types.specs.declared.scenarios.Scenario.{Scenario}
use Rattle.e3_world.specs.Given.{IsGiven}
use Rattle.e3_world.specs.Items.{inputs_at, turn_of}
use Rattle.e3_world.specs.Legal.{IsLegal}
use Rattle.e3_world.specs.Packets.{is_calm, is_line, lines, present_items, step_items}
use Rattle.e3_world.specs.Progress.{Through}

pub others_append : (site : ℕ) (xs ys : List Entry) → AreOthers site xs → AreOthers site ys → AreOthers site (xs ++ ys)
others_append site [] ys first second = second
others_append site (e ∷ xs) ys first second = (first.0, first.1, others_append site xs ys first.2 second)

pub sites_append : (xs ys : List Entry) → AreOfSites xs → AreOfSites ys → AreOfSites (xs ++ ys)
sites_append [] ys first second = second
sites_append (e ∷ xs) ys first second = (first.0, sites_append xs ys first.1 second)

-- entries of sites that are others than one are others than the driver
pub others_of_driver : (site : ℕ) (xs : List Entry) → AreOthers site xs → AreOfSites xs → AreOthers 0 xs
others_of_driver site [] others sites = tt
others_of_driver site (e ∷ xs) others sites = (sites.0, others.1, others_of_driver site xs others.2 sites.1)

pub meanwhile_none : (site : ℕ) (h : List Entry) → Meanwhile site h h
meanwhile_none site h = record { others = []; of_others = tt; of_sites = tt; is = sym (append-nil h) }

pub meanwhile_all : (site : ℕ) (h now : List Entry) → Meanwhile site h now → Meanwhile 0 h now
meanwhile_all site h now m = record { others = m.others; of_others = others_of_driver site m.others m.of_others m.of_sites; of_sites = m.of_sites; is = m.is }

pub meanwhile_on : (site : ℕ) (a b c : List Entry) → Meanwhile site a b → Meanwhile site b c → Meanwhile site a c
meanwhile_on site a b c m n = record {
  others = m.others ++ n.others;
  of_others = others_append site m.others n.others m.of_others n.of_others;
  of_sites = sites_append m.others n.others m.of_sites n.of_sites;
  is = n.is ∙ ap (λ l. l ++ n.others) m.is ∙ append_assoc a m.others n.others;
}

site_is_some : (n : ℕ) → 1 ≤ n → (n == 0) ≡ false
site_is_some zero some = absurd (omega (arith, some))
site_is_some (suc n) some = ne_eqb (suc n) 0 (λ same. omega (arith, same))

-- with one entry of a site
pub meanwhile_own : (h now : List Entry) (e : Entry) → 1 ≤ e.owner → is_line e ≡ false → now ≡ h ++ e ∷ [] → Meanwhile 0 h now
meanwhile_own h now e some stays is = record {
  others = e ∷ [];
  of_others = (site_is_some e.owner some, stays, tt);
  of_sites = (site_is_some e.owner some, tt);
  is = is;
}

-- they bring no line
pub lines_on : (site : ℕ) (h more : List Entry) → AreOthers site more → lines (h ++ more) ≡ lines h
lines_on site h [] others = ap lines (append-nil h)
lines_on site h (e ∷ more) others =
    ap lines (sym (append_assoc h (e ∷ []) more)) ∙ lines_on site (h ++ e ∷ []) more others.2 ∙ lines_still h e others.1

pub lines_meanwhile : (site : ℕ) (h now : List Entry) → Meanwhile site h now → lines now ≡ lines h
lines_meanwhile site h now m = ap lines m.is ∙ lines_on site h m.others m.of_others

-- so no recover step comes on
pub restless_on : (sc : Scenario) (h now : List Entry) → lines now ≡ lines h → is_calm (present_items sc h) ≡ false → is_calm (present_items sc now) ≡ false
restless_on sc h now same calm = ap (λ n. is_calm (step_items sc n)) same ∙ calm

-- what is alike
pub alike_meanwhile : (sc : Scenario) (site : ℕ) (h now : List Entry) → IsGiven sc → IsLegal sc now → Meanwhile site h now → Alike sc site h now
alike_meanwhile sc site h now given legal m =
    let P : List Entry → Type 0 = λ k. Alike sc site h k in
    subst P (sym m.is) (all_on sc site h m.others given (legal_behind sc [] h m.others (subst (IsLegal sc) m.is legal)) m.of_others)

-- all items are through in the second too
pub through_alike : (sc : Scenario) (site : ℕ) (h now : List Entry) → Alike sc site h now → Through sc h → Through sc now
through_alike sc site h now a all s = by (s == site) refl
  where
    here : DoneAt sc now site
    here up =
        let was : length (inputs_at sc h site) ≤ turn_of h site = all site (sym a.up ∙ up) in
        let asked : length (inputs_at sc now site) ≡ length (inputs_at sc h site) = ap length (inputs_same sc site site h now a) in
        let turn : turn_of now site ≡ turn_of h site = turn_same sc site h now a in
        omega (arith, was, asked, turn)

    by : (b : Bool) → (s == site) ≡ b → DoneAt sc now s
    by false apart = a.done s apart (all s)
    by true same = let P : ℕ → Type 0 = λ v. DoneAt sc now v in subst P (sym (eqb-true s site same)) here

pub through_meanwhile : (sc : Scenario) (site : ℕ) (h now : List Entry) → IsGiven sc → IsLegal sc now → Meanwhile site h now → Through sc h → Through sc now
through_meanwhile sc site h now given legal m all = through_alike sc site h now (alike_meanwhile sc site h now given legal m) all
