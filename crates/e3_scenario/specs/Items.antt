-- The items of a scenario: a verb, and behind it what the verb speaks of.
use Rattle.std.specs.Prelude.{ℕ, List, bytes_eq, codes, Option, Some, None, option_map, option_and_then, if◌then◌else◌}
use Rattle.std.specs.List.{list_all}
use Rattle.std.specs.Option.{option_or}
use Rattle.e3_types.specs.declared.transactions.Key.{Key}
use Rattle.e3_types.specs.declared.scenarios.Item.{Item}
use Rattle.e3_types.specs.declared.scenarios.Item.TheVariants.{Begin, Read, Write, Commit, Cancel, Expire, Elect, Recover, Split, Merge, Crash, Restart, Stop}
use Rattle.e3_types.specs.declared.scenarios.Leave.{Leave}
use Rattle.e3_scenario.specs.Words.{is_printable, before, rest, word}
use Rattle.e3_report.specs.lines.Marks.{space}
use Rattle.e3_scenario.specs.Parts.{name_of, value_of, site_of, sites_of, key_of, count_of, leave_of, parts_of}

-- begin NAME SITE SITES
unfoldable pub begin_of : List ℕ → Option Item
begin_of text = begin_with (option_and_then name_of (word 1 text)) (option_and_then site_of (word 2 text)) (option_and_then sites_of (rest 3 text))
  where
    begin_with : Option (List ℕ) → Option ℕ → Option (List ℕ) → Option Item
    begin_with (Some name) (Some site) (Some sites) = Some (Begin name site sites)
    begin_with _ _ _ = None

-- read NAME KEY
unfoldable pub read_of : List ℕ → Option Item
read_of text = read_with (option_and_then name_of (word 1 text)) (option_and_then key_of (rest 2 text))
  where
    read_with : Option (List ℕ) → Option Key → Option Item
    read_with (Some name) (Some key) = Some (Read name key)
    read_with _ _ = None

-- write NAME KEY VALUE
unfoldable pub write_of : List ℕ → Option Item
write_of text = write_with (option_and_then name_of (word 1 text)) (option_and_then key_of (word 2 text)) (option_and_then value_of (rest 3 text))
  where
    write_with : Option (List ℕ) → Option Key → Option (List ℕ) → Option Item
    write_with (Some name) (Some key) (Some val) = Some (Write name key val)
    write_with _ _ _ = None

-- commit NAME
unfoldable pub commit_of : List ℕ → Option Item
commit_of text = option_map Commit (option_and_then name_of (rest 1 text))

-- cancel NAME
unfoldable pub cancel_of : List ℕ → Option Item
cancel_of text = option_map Cancel (option_and_then name_of (rest 1 text))

-- expire SITE NAME
unfoldable pub expire_of : List ℕ → Option Item
expire_of text = expire_with (option_and_then site_of (word 1 text)) (option_and_then name_of (rest 2 text))
  where
    expire_with : Option ℕ → Option (List ℕ) → Option Item
    expire_with (Some site) (Some name) = Some (Expire site name)
    expire_with _ _ = None

-- elect SITE NAME SITES
unfoldable pub elect_of : List ℕ → Option Item
elect_of text = elect_with (option_and_then site_of (word 1 text)) (option_and_then name_of (word 2 text)) (option_and_then sites_of (rest 3 text))
  where
    elect_with : Option ℕ → Option (List ℕ) → Option (List ℕ) → Option Item
    elect_with (Some site) (Some name) (Some sites) = Some (Elect site name sites)
    elect_with _ _ _ = None

-- recover SITES
unfoldable pub recover_of : List ℕ → Option Item
recover_of text = option_map Recover (option_and_then sites_of (rest 1 text))

-- split SITES|SITES
unfoldable pub split_of : List ℕ → Option Item
split_of text = option_map Split (option_and_then parts_of (rest 1 text))

-- merge
unfoldable pub merge_of : List ℕ → Option Item
merge_of text = if bytes_eq text (codes "merge") then Some Merge else None

-- crash SITE
unfoldable pub crash_of : List ℕ → Option Item
crash_of text = option_map Crash (option_and_then site_of (rest 1 text))

-- restart SITE
unfoldable pub restart_of : List ℕ → Option Item
restart_of text = option_map Restart (option_and_then site_of (rest 1 text))

-- stop SITE COUNT LEAVE
unfoldable pub stop_of : List ℕ → Option Item
stop_of text = stop_with (option_and_then site_of (word 1 text)) (option_and_then count_of (word 2 text)) (option_and_then leave_of (rest 3 text))
  where
    stop_with : Option ℕ → Option ℕ → Option Leave → Option Item
    stop_with (Some site) (Some count) (Some leave) = Some (Stop site count leave)
    stop_with _ _ _ = None

-- an item that speaks of a transaction
unfoldable pub transaction_item : List ℕ → List ℕ → Option Item
transaction_item verb text =
    if bytes_eq verb (codes "begin") then begin_of text
    else if bytes_eq verb (codes "read") then read_of text
    else if bytes_eq verb (codes "write") then write_of text
    else if bytes_eq verb (codes "commit") then commit_of text
    else if bytes_eq verb (codes "cancel") then cancel_of text
    else if bytes_eq verb (codes "expire") then expire_of text
    else if bytes_eq verb (codes "elect") then elect_of text
    else None

-- an item that speaks of sites alone, but a split
unfoldable pub site_item : List ℕ → List ℕ → Option Item
site_item verb text =
    if bytes_eq verb (codes "recover") then recover_of text
    else if bytes_eq verb (codes "merge") then merge_of text
    else if bytes_eq verb (codes "crash") then crash_of text
    else if bytes_eq verb (codes "restart") then restart_of text
    else if bytes_eq verb (codes "stop") then stop_of text
    else None

-- an item by its verb
unfoldable pub item_by : List ℕ → List ℕ → Option Item
item_by verb text =
    if bytes_eq verb (codes "split") then split_of text
    else option_or (transaction_item verb text) (site_item verb text)

-- the item that a text of printable bytes spells
unfoldable pub item_of : List ℕ → Option Item
item_of text = if list_all is_printable text then item_by (before space text) text else None
