-- As many operations as a transaction may have, and its commit. Its entries are said by a rule.
use Rattle.std.specs.Prelude.{◌++◌, ◌∷◌, [], ℕ, zero, suc, List, codes, map}
use Rattle.e3_types.specs.declared.transactions.Answer.TheVariants.{Written}
use Rattle.e3_types.specs.declared.entries.Entry.{Entry}
use Rattle.e3_types.specs.declared.transactions.Key.{Key}
use Rattle.e3_types.specs.declared.transactions.Op.TheVariants.{Write}
use Rattle.e3_types.specs.declared.scenarios.Scenario.{Scenario}
use Rattle.e3_types.specs.declared.transactions.Txn.{Txn}
use Rattle.e3_types.specs.declared.scenarios.Item.TheVariants as item
use Rattle.std.specs.Fmt.{decimal}
use Rattle.e3_worked.specs.Entries.{operation, line, begins, local_operation, commits_alone}
use Rattle.e3_worked.specs.Openings.{all_rise}
use Rattle.e3_worked.specs.Names.{one_by_one, txn, s1}
use Rattle.e3_worked.specs.Worked.{Outcome}

-- the operation of a number writes the value v of that number to the key k of that number
abbrev pub key : ℕ → Key
key n = record { site = 1; name = codes "k" ++ decimal n }

abbrev pub value : ℕ → List ℕ
value n = codes "v" ++ decimal n

-- the numbers from 1 to this one
abbrev pub up_to : ℕ → List ℕ
up_to zero = []
up_to (suc n) = up_to n ++ suc n ∷ []

-- the scenario
abbrev pub sixty_four_operations : Scenario
sixty_four_operations = one_by_one (1 ∷ []) (
    item.Begin (codes "t") 1 s1 ∷
    map (λ n. item.Write (codes "t") (key n) (value n)) (up_to 64) ++
    item.Commit (codes "t") ∷
    [])

-- its text
abbrev pub sixty_four_operations_text : List ℕ
sixty_four_operations_text =
    codes "# As many operations as a transaction may have, and its commit.\n" ++
    codes "weights = [1]\n" ++
    codes "steps = [\n" ++
    codes "  \"begin t 1 1\",\n" ++
    codes "  \"write t 1.k1 v1\",\n" ++
    codes "  \"write t 1.k2 v2\",\n" ++
    codes "  \"write t 1.k3 v3\",\n" ++
    codes "  \"write t 1.k4 v4\",\n" ++
    codes "  \"write t 1.k5 v5\",\n" ++
    codes "  \"write t 1.k6 v6\",\n" ++
    codes "  \"write t 1.k7 v7\",\n" ++
    codes "  \"write t 1.k8 v8\",\n" ++
    codes "  \"write t 1.k9 v9\",\n" ++
    codes "  \"write t 1.k10 v10\",\n" ++
    codes "  \"write t 1.k11 v11\",\n" ++
    codes "  \"write t 1.k12 v12\",\n" ++
    codes "  \"write t 1.k13 v13\",\n" ++
    codes "  \"write t 1.k14 v14\",\n" ++
    codes "  \"write t 1.k15 v15\",\n" ++
    codes "  \"write t 1.k16 v16\",\n" ++
    codes "  \"write t 1.k17 v17\",\n" ++
    codes "  \"write t 1.k18 v18\",\n" ++
    codes "  \"write t 1.k19 v19\",\n" ++
    codes "  \"write t 1.k20 v20\",\n" ++
    codes "  \"write t 1.k21 v21\",\n" ++
    codes "  \"write t 1.k22 v22\",\n" ++
    codes "  \"write t 1.k23 v23\",\n" ++
    codes "  \"write t 1.k24 v24\",\n" ++
    codes "  \"write t 1.k25 v25\",\n" ++
    codes "  \"write t 1.k26 v26\",\n" ++
    codes "  \"write t 1.k27 v27\",\n" ++
    codes "  \"write t 1.k28 v28\",\n" ++
    codes "  \"write t 1.k29 v29\",\n" ++
    codes "  \"write t 1.k30 v30\",\n" ++
    codes "  \"write t 1.k31 v31\",\n" ++
    codes "  \"write t 1.k32 v32\",\n" ++
    codes "  \"write t 1.k33 v33\",\n" ++
    codes "  \"write t 1.k34 v34\",\n" ++
    codes "  \"write t 1.k35 v35\",\n" ++
    codes "  \"write t 1.k36 v36\",\n" ++
    codes "  \"write t 1.k37 v37\",\n" ++
    codes "  \"write t 1.k38 v38\",\n" ++
    codes "  \"write t 1.k39 v39\",\n" ++
    codes "  \"write t 1.k40 v40\",\n" ++
    codes "  \"write t 1.k41 v41\",\n" ++
    codes "  \"write t 1.k42 v42\",\n" ++
    codes "  \"write t 1.k43 v43\",\n" ++
    codes "  \"write t 1.k44 v44\",\n" ++
    codes "  \"write t 1.k45 v45\",\n" ++
    codes "  \"write t 1.k46 v46\",\n" ++
    codes "  \"write t 1.k47 v47\",\n" ++
    codes "  \"write t 1.k48 v48\",\n" ++
    codes "  \"write t 1.k49 v49\",\n" ++
    codes "  \"write t 1.k50 v50\",\n" ++
    codes "  \"write t 1.k51 v51\",\n" ++
    codes "  \"write t 1.k52 v52\",\n" ++
    codes "  \"write t 1.k53 v53\",\n" ++
    codes "  \"write t 1.k54 v54\",\n" ++
    codes "  \"write t 1.k55 v55\",\n" ++
    codes "  \"write t 1.k56 v56\",\n" ++
    codes "  \"write t 1.k57 v57\",\n" ++
    codes "  \"write t 1.k58 v58\",\n" ++
    codes "  \"write t 1.k59 v59\",\n" ++
    codes "  \"write t 1.k60 v60\",\n" ++
    codes "  \"write t 1.k61 v61\",\n" ++
    codes "  \"write t 1.k62 v62\",\n" ++
    codes "  \"write t 1.k63 v63\",\n" ++
    codes "  \"write t 1.k64 v64\",\n" ++
    codes "  \"commit t\",\n" ++
    codes "]\n"

-- its transaction
abbrev pub t1_1_1 : Txn
t1_1_1 = txn 1 1 s1

-- the entries of the operations up to this number
abbrev pub written : ℕ → List Entry
written zero = []
written (suc n) =
    written n ++
    line (suc (suc n)) ∷
    local_operation t1_1_1 (suc n) (Write (key (suc n)) (value (suc n))) Written ∷
    []

-- its history
abbrev pub sixty_four_operations_history : List Entry
sixty_four_operations_history =
    all_rise s1 ++
    line 1 ∷
    begins t1_1_1 ∷
    written 64 ++
    line 66 ∷
    commits_alone t1_1_1 (map (λ n. operation n (Write (key n) (value n))) (up_to 64)) ∷
    []

-- the numbers in the order of the names of their keys
abbrev pub by_name : List ℕ
by_name =
    1 ∷ 10 ∷ 11 ∷ 12 ∷ 13 ∷ 14 ∷ 15 ∷ 16 ∷ 17 ∷ 18 ∷ 19 ∷ 2 ∷ 20 ∷ 21 ∷ 22 ∷ 23 ∷
    24 ∷ 25 ∷ 26 ∷ 27 ∷ 28 ∷ 29 ∷ 3 ∷ 30 ∷ 31 ∷ 32 ∷ 33 ∷ 34 ∷ 35 ∷ 36 ∷ 37 ∷ 38 ∷
    39 ∷ 4 ∷ 40 ∷ 41 ∷ 42 ∷ 43 ∷ 44 ∷ 45 ∷ 46 ∷ 47 ∷ 48 ∷ 49 ∷ 5 ∷ 50 ∷ 51 ∷ 52 ∷
    53 ∷ 54 ∷ 55 ∷ 56 ∷ 57 ∷ 58 ∷ 59 ∷ 6 ∷ 60 ∷ 61 ∷ 62 ∷ 63 ∷ 64 ∷ 7 ∷ 8 ∷ 9 ∷
    []

-- what it comes to
abbrev pub sixty_four_operations_outcome : Outcome
sixty_four_operations_outcome = record {
  order = t1_1_1 ∷ [];
  tables = map (λ n. record { name = (key n).name; val = value n }) by_name ∷ [];
}

-- its report
abbrev pub sixty_four_operations_report : List ℕ
sixty_four_operations_report =
    codes "start\n" ++
    codes "1: rose 1\n" ++
    codes "step 1\n" ++
    codes "> begin t 1 1\n" ++
    codes "1: 1.1.1 began 1\n" ++
    codes "step 2\n" ++
    codes "> write t 1.k1 v1\n" ++
    codes "1: 1.1.1 op 1 written\n" ++
    codes "step 3\n" ++
    codes "> write t 1.k2 v2\n" ++
    codes "1: 1.1.1 op 2 written\n" ++
    codes "step 4\n" ++
    codes "> write t 1.k3 v3\n" ++
    codes "1: 1.1.1 op 3 written\n" ++
    codes "step 5\n" ++
    codes "> write t 1.k4 v4\n" ++
    codes "1: 1.1.1 op 4 written\n" ++
    codes "step 6\n" ++
    codes "> write t 1.k5 v5\n" ++
    codes "1: 1.1.1 op 5 written\n" ++
    codes "step 7\n" ++
    codes "> write t 1.k6 v6\n" ++
    codes "1: 1.1.1 op 6 written\n" ++
    codes "step 8\n" ++
    codes "> write t 1.k7 v7\n" ++
    codes "1: 1.1.1 op 7 written\n" ++
    codes "step 9\n" ++
    codes "> write t 1.k8 v8\n" ++
    codes "1: 1.1.1 op 8 written\n" ++
    codes "step 10\n" ++
    codes "> write t 1.k9 v9\n" ++
    codes "1: 1.1.1 op 9 written\n" ++
    codes "step 11\n" ++
    codes "> write t 1.k10 v10\n" ++
    codes "1: 1.1.1 op 10 written\n" ++
    codes "step 12\n" ++
    codes "> write t 1.k11 v11\n" ++
    codes "1: 1.1.1 op 11 written\n" ++
    codes "step 13\n" ++
    codes "> write t 1.k12 v12\n" ++
    codes "1: 1.1.1 op 12 written\n" ++
    codes "step 14\n" ++
    codes "> write t 1.k13 v13\n" ++
    codes "1: 1.1.1 op 13 written\n" ++
    codes "step 15\n" ++
    codes "> write t 1.k14 v14\n" ++
    codes "1: 1.1.1 op 14 written\n" ++
    codes "step 16\n" ++
    codes "> write t 1.k15 v15\n" ++
    codes "1: 1.1.1 op 15 written\n" ++
    codes "step 17\n" ++
    codes "> write t 1.k16 v16\n" ++
    codes "1: 1.1.1 op 16 written\n" ++
    codes "step 18\n" ++
    codes "> write t 1.k17 v17\n" ++
    codes "1: 1.1.1 op 17 written\n" ++
    codes "step 19\n" ++
    codes "> write t 1.k18 v18\n" ++
    codes "1: 1.1.1 op 18 written\n" ++
    codes "step 20\n" ++
    codes "> write t 1.k19 v19\n" ++
    codes "1: 1.1.1 op 19 written\n" ++
    codes "step 21\n" ++
    codes "> write t 1.k20 v20\n" ++
    codes "1: 1.1.1 op 20 written\n" ++
    codes "step 22\n" ++
    codes "> write t 1.k21 v21\n" ++
    codes "1: 1.1.1 op 21 written\n" ++
    codes "step 23\n" ++
    codes "> write t 1.k22 v22\n" ++
    codes "1: 1.1.1 op 22 written\n" ++
    codes "step 24\n" ++
    codes "> write t 1.k23 v23\n" ++
    codes "1: 1.1.1 op 23 written\n" ++
    codes "step 25\n" ++
    codes "> write t 1.k24 v24\n" ++
    codes "1: 1.1.1 op 24 written\n" ++
    codes "step 26\n" ++
    codes "> write t 1.k25 v25\n" ++
    codes "1: 1.1.1 op 25 written\n" ++
    codes "step 27\n" ++
    codes "> write t 1.k26 v26\n" ++
    codes "1: 1.1.1 op 26 written\n" ++
    codes "step 28\n" ++
    codes "> write t 1.k27 v27\n" ++
    codes "1: 1.1.1 op 27 written\n" ++
    codes "step 29\n" ++
    codes "> write t 1.k28 v28\n" ++
    codes "1: 1.1.1 op 28 written\n" ++
    codes "step 30\n" ++
    codes "> write t 1.k29 v29\n" ++
    codes "1: 1.1.1 op 29 written\n" ++
    codes "step 31\n" ++
    codes "> write t 1.k30 v30\n" ++
    codes "1: 1.1.1 op 30 written\n" ++
    codes "step 32\n" ++
    codes "> write t 1.k31 v31\n" ++
    codes "1: 1.1.1 op 31 written\n" ++
    codes "step 33\n" ++
    codes "> write t 1.k32 v32\n" ++
    codes "1: 1.1.1 op 32 written\n" ++
    codes "step 34\n" ++
    codes "> write t 1.k33 v33\n" ++
    codes "1: 1.1.1 op 33 written\n" ++
    codes "step 35\n" ++
    codes "> write t 1.k34 v34\n" ++
    codes "1: 1.1.1 op 34 written\n" ++
    codes "step 36\n" ++
    codes "> write t 1.k35 v35\n" ++
    codes "1: 1.1.1 op 35 written\n" ++
    codes "step 37\n" ++
    codes "> write t 1.k36 v36\n" ++
    codes "1: 1.1.1 op 36 written\n" ++
    codes "step 38\n" ++
    codes "> write t 1.k37 v37\n" ++
    codes "1: 1.1.1 op 37 written\n" ++
    codes "step 39\n" ++
    codes "> write t 1.k38 v38\n" ++
    codes "1: 1.1.1 op 38 written\n" ++
    codes "step 40\n" ++
    codes "> write t 1.k39 v39\n" ++
    codes "1: 1.1.1 op 39 written\n" ++
    codes "step 41\n" ++
    codes "> write t 1.k40 v40\n" ++
    codes "1: 1.1.1 op 40 written\n" ++
    codes "step 42\n" ++
    codes "> write t 1.k41 v41\n" ++
    codes "1: 1.1.1 op 41 written\n" ++
    codes "step 43\n" ++
    codes "> write t 1.k42 v42\n" ++
    codes "1: 1.1.1 op 42 written\n" ++
    codes "step 44\n" ++
    codes "> write t 1.k43 v43\n" ++
    codes "1: 1.1.1 op 43 written\n" ++
    codes "step 45\n" ++
    codes "> write t 1.k44 v44\n" ++
    codes "1: 1.1.1 op 44 written\n" ++
    codes "step 46\n" ++
    codes "> write t 1.k45 v45\n" ++
    codes "1: 1.1.1 op 45 written\n" ++
    codes "step 47\n" ++
    codes "> write t 1.k46 v46\n" ++
    codes "1: 1.1.1 op 46 written\n" ++
    codes "step 48\n" ++
    codes "> write t 1.k47 v47\n" ++
    codes "1: 1.1.1 op 47 written\n" ++
    codes "step 49\n" ++
    codes "> write t 1.k48 v48\n" ++
    codes "1: 1.1.1 op 48 written\n" ++
    codes "step 50\n" ++
    codes "> write t 1.k49 v49\n" ++
    codes "1: 1.1.1 op 49 written\n" ++
    codes "step 51\n" ++
    codes "> write t 1.k50 v50\n" ++
    codes "1: 1.1.1 op 50 written\n" ++
    codes "step 52\n" ++
    codes "> write t 1.k51 v51\n" ++
    codes "1: 1.1.1 op 51 written\n" ++
    codes "step 53\n" ++
    codes "> write t 1.k52 v52\n" ++
    codes "1: 1.1.1 op 52 written\n" ++
    codes "step 54\n" ++
    codes "> write t 1.k53 v53\n" ++
    codes "1: 1.1.1 op 53 written\n" ++
    codes "step 55\n" ++
    codes "> write t 1.k54 v54\n" ++
    codes "1: 1.1.1 op 54 written\n" ++
    codes "step 56\n" ++
    codes "> write t 1.k55 v55\n" ++
    codes "1: 1.1.1 op 55 written\n" ++
    codes "step 57\n" ++
    codes "> write t 1.k56 v56\n" ++
    codes "1: 1.1.1 op 56 written\n" ++
    codes "step 58\n" ++
    codes "> write t 1.k57 v57\n" ++
    codes "1: 1.1.1 op 57 written\n" ++
    codes "step 59\n" ++
    codes "> write t 1.k58 v58\n" ++
    codes "1: 1.1.1 op 58 written\n" ++
    codes "step 60\n" ++
    codes "> write t 1.k59 v59\n" ++
    codes "1: 1.1.1 op 59 written\n" ++
    codes "step 61\n" ++
    codes "> write t 1.k60 v60\n" ++
    codes "1: 1.1.1 op 60 written\n" ++
    codes "step 62\n" ++
    codes "> write t 1.k61 v61\n" ++
    codes "1: 1.1.1 op 61 written\n" ++
    codes "step 63\n" ++
    codes "> write t 1.k62 v62\n" ++
    codes "1: 1.1.1 op 62 written\n" ++
    codes "step 64\n" ++
    codes "> write t 1.k63 v63\n" ++
    codes "1: 1.1.1 op 63 written\n" ++
    codes "step 65\n" ++
    codes "> write t 1.k64 v64\n" ++
    codes "1: 1.1.1 op 64 written\n" ++
    codes "step 66\n" ++
    codes "> commit t\n" ++
    codes "1: 1.1.1 committed\n" ++
    codes "order\n" ++
    codes "1.1.1\n" ++
    codes "site 1 up 1\n" ++
    codes "log\n" ++
    codes "birth 1 1\n" ++
    codes "inc 1\n" ++
    codes "vote 1.1.1 64\n" ++
    codes "write 1 k1 v1\n" ++
    codes "write 2 k2 v2\n" ++
    codes "write 3 k3 v3\n" ++
    codes "write 4 k4 v4\n" ++
    codes "write 5 k5 v5\n" ++
    codes "write 6 k6 v6\n" ++
    codes "write 7 k7 v7\n" ++
    codes "write 8 k8 v8\n" ++
    codes "write 9 k9 v9\n" ++
    codes "write 10 k10 v10\n" ++
    codes "write 11 k11 v11\n" ++
    codes "write 12 k12 v12\n" ++
    codes "write 13 k13 v13\n" ++
    codes "write 14 k14 v14\n" ++
    codes "write 15 k15 v15\n" ++
    codes "write 16 k16 v16\n" ++
    codes "write 17 k17 v17\n" ++
    codes "write 18 k18 v18\n" ++
    codes "write 19 k19 v19\n" ++
    codes "write 20 k20 v20\n" ++
    codes "write 21 k21 v21\n" ++
    codes "write 22 k22 v22\n" ++
    codes "write 23 k23 v23\n" ++
    codes "write 24 k24 v24\n" ++
    codes "write 25 k25 v25\n" ++
    codes "write 26 k26 v26\n" ++
    codes "write 27 k27 v27\n" ++
    codes "write 28 k28 v28\n" ++
    codes "write 29 k29 v29\n" ++
    codes "write 30 k30 v30\n" ++
    codes "write 31 k31 v31\n" ++
    codes "write 32 k32 v32\n" ++
    codes "write 33 k33 v33\n" ++
    codes "write 34 k34 v34\n" ++
    codes "write 35 k35 v35\n" ++
    codes "write 36 k36 v36\n" ++
    codes "write 37 k37 v37\n" ++
    codes "write 38 k38 v38\n" ++
    codes "write 39 k39 v39\n" ++
    codes "write 40 k40 v40\n" ++
    codes "write 41 k41 v41\n" ++
    codes "write 42 k42 v42\n" ++
    codes "write 43 k43 v43\n" ++
    codes "write 44 k44 v44\n" ++
    codes "write 45 k45 v45\n" ++
    codes "write 46 k46 v46\n" ++
    codes "write 47 k47 v47\n" ++
    codes "write 48 k48 v48\n" ++
    codes "write 49 k49 v49\n" ++
    codes "write 50 k50 v50\n" ++
    codes "write 51 k51 v51\n" ++
    codes "write 52 k52 v52\n" ++
    codes "write 53 k53 v53\n" ++
    codes "write 54 k54 v54\n" ++
    codes "write 55 k55 v55\n" ++
    codes "write 56 k56 v56\n" ++
    codes "write 57 k57 v57\n" ++
    codes "write 58 k58 v58\n" ++
    codes "write 59 k59 v59\n" ++
    codes "write 60 k60 v60\n" ++
    codes "write 61 k61 v61\n" ++
    codes "write 62 k62 v62\n" ++
    codes "write 63 k63 v63\n" ++
    codes "write 64 k64 v64\n" ++
    codes "attempt 1.1.1 1 commit\n" ++
    codes "decision 1.1.1 commit\n" ++
    codes "rows\n" ++
    codes "k1 v1\n" ++
    codes "k10 v10\n" ++
    codes "k11 v11\n" ++
    codes "k12 v12\n" ++
    codes "k13 v13\n" ++
    codes "k14 v14\n" ++
    codes "k15 v15\n" ++
    codes "k16 v16\n" ++
    codes "k17 v17\n" ++
    codes "k18 v18\n" ++
    codes "k19 v19\n" ++
    codes "k2 v2\n" ++
    codes "k20 v20\n" ++
    codes "k21 v21\n" ++
    codes "k22 v22\n" ++
    codes "k23 v23\n" ++
    codes "k24 v24\n" ++
    codes "k25 v25\n" ++
    codes "k26 v26\n" ++
    codes "k27 v27\n" ++
    codes "k28 v28\n" ++
    codes "k29 v29\n" ++
    codes "k3 v3\n" ++
    codes "k30 v30\n" ++
    codes "k31 v31\n" ++
    codes "k32 v32\n" ++
    codes "k33 v33\n" ++
    codes "k34 v34\n" ++
    codes "k35 v35\n" ++
    codes "k36 v36\n" ++
    codes "k37 v37\n" ++
    codes "k38 v38\n" ++
    codes "k39 v39\n" ++
    codes "k4 v4\n" ++
    codes "k40 v40\n" ++
    codes "k41 v41\n" ++
    codes "k42 v42\n" ++
    codes "k43 v43\n" ++
    codes "k44 v44\n" ++
    codes "k45 v45\n" ++
    codes "k46 v46\n" ++
    codes "k47 v47\n" ++
    codes "k48 v48\n" ++
    codes "k49 v49\n" ++
    codes "k5 v5\n" ++
    codes "k50 v50\n" ++
    codes "k51 v51\n" ++
    codes "k52 v52\n" ++
    codes "k53 v53\n" ++
    codes "k54 v54\n" ++
    codes "k55 v55\n" ++
    codes "k56 v56\n" ++
    codes "k57 v57\n" ++
    codes "k58 v58\n" ++
    codes "k59 v59\n" ++
    codes "k6 v6\n" ++
    codes "k60 v60\n" ++
    codes "k61 v61\n" ++
    codes "k62 v62\n" ++
    codes "k63 v63\n" ++
    codes "k64 v64\n" ++
    codes "k7 v7\n" ++
    codes "k8 v8\n" ++
    codes "k9 v9\n" ++
    codes "end\n"
