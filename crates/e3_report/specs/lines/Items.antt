-- The lines of a step's items, spelled as in the scenario.
use Rattle.std.specs.Prelude.{◌++◌, List, ℕ, codes}
use Rattle.std.specs.Fmt.{decimal}
use Rattle.e3_types.specs.declared.scenarios.Item.{Item}
use Rattle.e3_types.specs.declared.scenarios.Item.TheVariants as item
use Rattle.e3_types.specs.declared.scenarios.Leave.{Leave}
use Rattle.e3_types.specs.declared.transactions.Key.{Key}
use Rattle.e3_report.specs.lines.Texts.{line_end, sites_text, parts_text, key_text, leave_text}

-- `begin NAME SITE SITES`
unfoldable pub begin_text : List ℕ → ℕ → List ℕ → List ℕ
begin_text name site sites = codes "begin " ++ name ++ codes " " ++ decimal site ++ codes " " ++ sites_text sites

-- `read NAME KEY`
unfoldable pub read_text : List ℕ → Key → List ℕ
read_text name key = codes "read " ++ name ++ codes " " ++ key_text key

-- `write NAME KEY VALUE`; an empty value leaves the space before it
unfoldable pub write_text : List ℕ → Key → List ℕ → List ℕ
write_text name key val = codes "write " ++ name ++ codes " " ++ key_text key ++ codes " " ++ val

-- `expire SITE NAME`
unfoldable pub expire_text : ℕ → List ℕ → List ℕ
expire_text site name = codes "expire " ++ decimal site ++ codes " " ++ name

-- `elect SITE NAME SITES`
unfoldable pub elect_text : ℕ → List ℕ → List ℕ → List ℕ
elect_text site name sites = codes "elect " ++ decimal site ++ codes " " ++ name ++ codes " " ++ sites_text sites

-- `stop SITE COUNT LEAVE`
unfoldable pub stop_text : ℕ → ℕ → Leave → List ℕ
stop_text site count leaves = codes "stop " ++ decimal site ++ codes " " ++ decimal count ++ codes " " ++ leave_text leaves

-- `recover SITES`
unfoldable pub recover_text : List ℕ → List ℕ
recover_text sites = codes "recover " ++ sites_text sites

-- `split SITES|SITES`
unfoldable pub split_text : List (List ℕ) → List ℕ
split_text parts = codes "split " ++ parts_text parts

-- an item, in the scenario's own words
unfoldable pub item_text : Item → List ℕ
item_text (item.Begin name site sites) = begin_text name site sites
item_text (item.Read name key) = read_text name key
item_text (item.Write name key val) = write_text name key val
item_text (item.Commit name) = codes "commit " ++ name
item_text (item.Cancel name) = codes "cancel " ++ name
item_text (item.Expire site name) = expire_text site name
item_text (item.Elect site name sites) = elect_text site name sites
item_text (item.Recover sites) = recover_text sites
item_text (item.Split parts) = split_text parts
item_text item.Merge = codes "merge"
item_text (item.Crash site) = codes "crash " ++ decimal site
item_text (item.Restart site) = codes "restart " ++ decimal site
item_text (item.Stop site count leaves) = stop_text site count leaves

-- an item's line: the item after `> `
unfoldable pub item_line : Item → List ℕ
item_line i = codes "> " ++ item_text i ++ line_end
