-- Tables with more room.
use Rattle.std.specs.Prelude.{◌≡◌, if◌then◌else◌, ℕ, suc, Result, Ok, Err, OnOk, fold}
use Rattle.std.proofs.Common.{ap, sym, ◌∙◌}
use Rattle.e3_world.specs.declared.lives.Life.{Life}
use Rattle.e3_world.specs.declared.lives.SiteStep.{SiteStep}
use Rattle.e3_world.specs.Elections.{is_elect}
use Rattle.e3_world.specs.Steps.{is_begin}
use Rattle.e3_cards.specs.declared.card.Card.{Card}
use Rattle.e3_cards.specs.declared.cards.Cards.{Cards}
use Rattle.e3_cards.specs.declared.cards.Changes.{Changes}
use Rattle.e3_cards.specs.Cards.{card_by, moment_of}
use Rattle.e3_cards.specs.Tables.{AreChanges, CardsStand, HasRoom as HasCards, IsRoomier, call_now, card_at, put}
use Rattle.e3_site.specs.declared.past.names.Names.{Names}
use Rattle.e3_site.specs.past.Knowing.{AreBehind, NamesStand}
use Rattle.e3_places.specs.declared.places.Place.{Place}
use Rattle.e3_places.specs.Granting.{given}
use Rattle.e3_places.specs.Keeping.{HasRoom as HasPlaces}
use Rattle.e3_site.specs.declared.past.tables.Behind.{Behind}
use Rattle.e3_site.specs.declared.past.tables.Tables.{Tables}
use Rattle.e3_site.specs.past.Opening.{HaveRoom, OpensStand}
use Rattle.e3_site.specs.past.Stepping.{ActAlike, HasRoom}

-- two tables of cards that differ in spare cards alone
pub record HaveSameCards (was now : Cards) : Type 0 where
  pub site_is : now.site ≡ was.site
  pub inc_is : now.inc ≡ was.inc
  pub begins_are : now.begins ≡ was.begins
  pub calls_are : now.calls ≡ was.calls
  pub room : IsRoomier was.map.entries now.map.entries

-- they stand for the same lives
stand_too : (site : ℕ) (was now : Cards) (life : Life) → HaveSameCards was now → CardsStand site was life → CardsStand site now life
stand_too site was now life same h = record {
  site_is = same.site_is ∙ h.site_is;
  inc_is = same.inc_is ∙ h.inc_is;
  begins_are = same.begins_are ∙ h.begins_are;
  calls_are = same.calls_are ∙ h.calls_are;
  cards_are = λ t known. same.room.cards t known ∙ h.cards_are t known;
}

stood_too : (site : ℕ) (was now : Cards) (life : Life) → HaveSameCards was now → CardsStand site now life → CardsStand site was life
stood_too site was now life same h = record {
  site_is = sym same.site_is ∙ h.site_is;
  inc_is = sym same.inc_is ∙ h.inc_is;
  begins_are = sym same.begins_are ∙ h.begins_are;
  calls_are = sym same.calls_are ∙ h.calls_are;
  cards_are = λ t known. sym (same.room.cards t known) ∙ h.cards_are t known;
}

-- a step makes the same of them
same_changes : (was now : Cards) (s : SiteStep) (more : Changes) → HaveSameCards was now → AreChanges was s more → AreChanges now s more
same_changes was now s more same h = record {
  begins = h.begins ∙ ap (λ (n : ℕ). if is_begin (moment_of s) then suc n else n) (sym same.begins_are);
  calls = h.calls ∙ ap (λ (n : ℕ). if is_elect (moment_of s) then suc n else n) (sym same.calls_are);
  cards = λ t known.
      ap (λ (k : Card). fold (put t) k more.cards) (same.room.cards t known) ∙ h.cards t known
      ∙ ap (λ (k : Card). card_by was.site (call_now was) t k s) (sym (same.room.cards t known))
      ∙ ap (λ (n : ℕ). card_by n (call_now was) t (card_at now.map.entries t) s) (sym same.site_is)
      ∙ ap (λ (i : ℕ). card_by now.site (record { inc = i; seq = suc was.calls }) t (card_at now.map.entries t) s) (sym same.inc_is)
      ∙ ap (λ (n : ℕ). card_by now.site (record { inc = now.inc; seq = suc n }) t (card_at now.map.entries t) s) (sym same.calls_are);
}

-- what is known of names stood for each life for which it stands with more room, if it stood for any
names_stood : (was now : Names) → ((site : ℕ) (life : Life) → NamesStand site was life → NamesStand site now life) → (n : ℕ) (l : Life) → NamesStand n was l
    → (site : ℕ) (life : Life) → NamesStand site now life → NamesStand site was life
names_stood was now too n l first site life h =
    let also : NamesStand n now l = too n l first in
    record {
      places_stand = record {
        names_stand = λ name. first.places_stand.names_stand name ∙ sym (also.places_stand.names_stand name) ∙ h.places_stand.names_stand name;
        txns_stand = λ k. first.places_stand.txns_stand k ∙ sym (also.places_stand.txns_stand k) ∙ h.places_stand.txns_stand k;
      };
      restless_stand = λ name calm.
          ap (λ (p : Place). given name p.claims) (sym (h.places_stand.names_stand name) ∙ also.places_stand.names_stand name) ∙ first.restless_stand name calm;
    }

-- tables with more room act as those without
pub act_alike : (old new : Tables) (behind : Behind) → HaveSameCards old.cards new.cards
    → ((site : ℕ) (life : Life) → NamesStand site old.names life → NamesStand site new.names life)
    → ((site : ℕ) (life : Life) (s : SiteStep) → AreBehind site old.names life s behind.names → AreBehind site new.names life s behind.names)
    → ((site : ℕ) (life : Life) → OpensStand site old.opens life → OpensStand site new.opens life)
    → ActAlike old new behind
act_alike old new behind same names are opens = record {
  stand = λ site life h. record {
    cards_stand = stand_too site old.cards new.cards life same h.cards_stand;
    names_stand = names site life h.names_stand;
    opens_stand = opens site life h.opens_stand;
  };
  are = λ site life s h b. record {
    cards_are = same_changes old.cards new.cards s behind.cards same b.cards_are;
    names_are = λ n l cards known may.
        are n l s (b.names_are n l (stood_too n old.cards new.cards l same cards) (names_stood old.names new.names names site life h.names_stand n l known) may);
    opens_are = λ n l cards. b.opens_are n l (stood_too n old.cards new.cards l same cards);
  };
}

-- there is room for all
pub all_room : {X E : Type 0} (r : Result X E) (tables : Tables) (behind : Behind) → HasCards tables.cards.map.entries behind.cards.cards
    → HasPlaces tables.names.places behind.names.changes → OnOk r (HaveRoom tables.opens behind.opens) → OnOk r (HasRoom tables behind)
all_room (Ok x) tables behind cards names opens = record { cards = cards; names = names; opens = opens }
all_room (Err e) tables behind cards names opens = tt
