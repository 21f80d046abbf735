-- Trusted: the program of a seed: workers that add to a total under a lock, and an assertion of the total, which is wrong by one for some seeds.
use Rattle.std.specs.Prelude.{ℕ, ◌+◌, ◌-◌, ◌*◌, ◌/◌, ◌%◌, List, ◌++◌, codes}
use Rattle.std.specs.List.{flat_map, range_with_len, sum_by}
use Rattle.std.specs.Fmt.{decimal}

-- the number of workers
abbrev pub workers_of : ℕ → ℕ
workers_of seed = 2 + seed % 3

-- how often each worker adds
abbrev pub blocks_of : ℕ → ℕ
blocks_of seed = 4 + (seed / 3) % 13

-- what the asserted total is wrong by
abbrev pub error_of : ℕ → ℕ
error_of seed = (seed / 39) % 2

-- what a worker adds in a block; both are counted from 1
abbrev pub addend : ℕ → ℕ → ℕ → ℕ
addend seed worker block = (7 * seed + 13 * worker + 5 * block) % 100

-- the numbers from 1 to this one
abbrev pub one_to : ℕ → List ℕ
one_to most = range_with_len 1 most

-- what a worker adds in all its blocks
abbrev pub worker_sum : ℕ → ℕ → ℕ
worker_sum seed worker = sum_by (addend seed worker) (one_to (blocks_of seed))

-- the asserted total
abbrev pub total_of : ℕ → ℕ
total_of seed = sum_by (worker_sum seed) (one_to (workers_of seed)) + error_of seed

-- the lines in which a worker adds this number
abbrev pub block_text : ℕ → List ℕ
block_text number =
    codes "  pthread_mutex_lock(&m);\n  total = total + " ++ decimal number ++ codes "u;\n  pthread_mutex_unlock(&m);\n"

-- the line in which a worker begins
abbrev pub worker_head : ℕ → List ℕ
worker_head worker = codes "void *worker" ++ decimal worker ++ codes "(void *arg) {\n"

abbrev pub worker_text : ℕ → ℕ → List ℕ
worker_text seed worker =
    worker_head worker ++ flat_map (λ block. block_text (addend seed worker block)) (one_to (blocks_of seed))
    ++ codes "  return NULL;\n}\n"

-- the line that creates a worker's thread
abbrev pub create_text : ℕ → List ℕ
create_text worker = (codes "  pthread_create(&t[" ++ decimal (worker - 1) ++ codes "], NULL, worker") ++ (decimal worker ++ codes ", NULL);\n")

-- the line that joins it
abbrev pub join_text : ℕ → List ℕ
join_text worker = codes "  pthread_join(t[" ++ decimal (worker - 1) ++ codes "], NULL);\n"

-- the first lines of `main`
abbrev pub main_head : ℕ → List ℕ
main_head workers = codes "int main(void) {\n  pthread_t t[" ++ decimal workers ++ codes "];\n"

-- its last lines
abbrev pub main_end : ℕ → List ℕ
main_end total = codes "  assert(total == " ++ decimal total ++ codes "u);\n  return 0;\n}\n"

abbrev pub main_text : ℕ → List ℕ
main_text seed =
    main_head (workers_of seed) ++ flat_map create_text (one_to (workers_of seed)) ++ flat_map join_text (one_to (workers_of seed))
    ++ main_end (total_of seed)

-- the lines before the workers
abbrev pub head_text : List ℕ
head_text = codes "#include <pthread.h>\n#include <assert.h>\npthread_mutex_t m = PTHREAD_MUTEX_INITIALIZER;\nunsigned int total;\n"

abbrev pub generated_text : ℕ → List ℕ
generated_text seed = head_text ++ flat_map (worker_text seed) (one_to (workers_of seed)) ++ main_text seed
