-- Trusted: the names that have a meaning of their own, what each wants for its arguments, and what it gives.
use Rattle.std.specs.Prelude.{◌≡◌, ℕ, Bool, true, false, List, [], ◌∷◌, codes, bytes_eq, Option, Some, None, if◌then◌else◌}
use Rattle.std.specs.List.{find}
use Rattle.lz_base.specs.declared.word.IntType.TheVariants as kinds
use Rattle.lz_tree.specs.declared.scoped.KnownName.{KnownName}
use Rattle.lz_tree.specs.declared.scoped.KnownName.TheVariants.{Assert, Assume, NondetInt, NondetUint, Error, ReachError, Abort, AtomicBegin, AtomicEnd, Create, Join, Exit, MutexInit, MutexDestroy, MutexLock, MutexUnlock, CondInit, CondDestroy, CondWait, CondSignal, CondBroadcast, Printf}
use Rattle.lz_scopes.specs.declared.value_types.ValueType.{ValueType}
use Rattle.lz_scopes.specs.declared.value_types.ValueType.TheVariants as sorts
use Rattle.lz_scopes.specs.declared.value_types.Want.{Want}
use Rattle.lz_scopes.specs.declared.value_types.Want.TheVariants as wants

-- the bytes of a known name
abbrev pub known_text : KnownName → List ℕ
known_text Assert = codes "assert"
known_text Assume = codes "__VERIFIER_assume"
known_text NondetInt = codes "__VERIFIER_nondet_int"
known_text NondetUint = codes "__VERIFIER_nondet_uint"
known_text Error = codes "__VERIFIER_error"
known_text ReachError = codes "reach_error"
known_text Abort = codes "abort"
known_text AtomicBegin = codes "__VERIFIER_atomic_begin"
known_text AtomicEnd = codes "__VERIFIER_atomic_end"
known_text Create = codes "pthread_create"
known_text Join = codes "pthread_join"
known_text Exit = codes "pthread_exit"
known_text MutexInit = codes "pthread_mutex_init"
known_text MutexDestroy = codes "pthread_mutex_destroy"
known_text MutexLock = codes "pthread_mutex_lock"
known_text MutexUnlock = codes "pthread_mutex_unlock"
known_text CondInit = codes "pthread_cond_init"
known_text CondDestroy = codes "pthread_cond_destroy"
known_text CondWait = codes "pthread_cond_wait"
known_text CondSignal = codes "pthread_cond_signal"
known_text CondBroadcast = codes "pthread_cond_broadcast"
known_text Printf = codes "printf"

-- the known names: those of C99 7.2, 7.19 and 7.20, of POSIX threads, and of this project's checks
unfoldable pub known_names : List KnownName
known_names =
    Assert ∷ Assume ∷ NondetInt ∷ NondetUint ∷ Error ∷ ReachError ∷ Abort ∷ AtomicBegin ∷ AtomicEnd
    ∷ Create ∷ Join ∷ Exit ∷ MutexInit ∷ MutexDestroy ∷ MutexLock ∷ MutexUnlock ∷ CondInit
    ∷ CondDestroy ∷ CondWait ∷ CondSignal ∷ CondBroadcast ∷ Printf ∷ []

-- the known name of these bytes
unfoldable pub known : List ℕ → Option KnownName
known bytes = find (λ k. bytes_eq bytes (known_text k)) known_names

-- a name that a file may not take for something of its own: each known name but `reach_error`
abbrev pub is_taken : Option KnownName → Bool
is_taken None = false
is_taken (Some ReachError) = false
is_taken (Some _) = true

-- what a known name wants for its first arguments, in their order
abbrev pub wants_of_known : KnownName → List Want
wants_of_known Assert = wants.Integer ∷ []
wants_of_known Assume = wants.Integer ∷ []
wants_of_known Create = wants.Reference sorts.Thread ∷ wants.Null ∷ wants.Start ∷ wants.Pointer ∷ []
wants_of_known Join = wants.Handle ∷ wants.Null ∷ []
wants_of_known Exit = wants.Pointer ∷ []
wants_of_known MutexInit = wants.Reference sorts.Mutex ∷ wants.Null ∷ []
wants_of_known MutexDestroy = wants.Reference sorts.Mutex ∷ []
wants_of_known MutexLock = wants.Reference sorts.Mutex ∷ []
wants_of_known MutexUnlock = wants.Reference sorts.Mutex ∷ []
wants_of_known CondInit = wants.Reference sorts.Cond ∷ wants.Null ∷ []
wants_of_known CondDestroy = wants.Reference sorts.Cond ∷ []
wants_of_known CondWait = wants.Reference sorts.Cond ∷ wants.Reference sorts.Mutex ∷ []
wants_of_known CondSignal = wants.Reference sorts.Cond ∷ []
wants_of_known CondBroadcast = wants.Reference sorts.Cond ∷ []
wants_of_known Printf = wants.Format ∷ []
wants_of_known _ = []

-- it takes any number of further arguments
abbrev pub takes_more : KnownName → Bool
takes_more Printf = true
takes_more _ = false

-- it makes or joins threads
abbrev pub is_for_threads : KnownName → Bool
is_for_threads Create = true
is_for_threads Join = true
is_for_threads _ = false

-- what a call of it gives: the calls on threads, mutexes and conditions and `printf` give an `int`
abbrev pub given_by_known : KnownName → ValueType
given_by_known Assert = sorts.Nothing
given_by_known Assume = sorts.Nothing
given_by_known NondetUint = sorts.Integer kinds.Unsigned
given_by_known Error = sorts.Nothing
given_by_known ReachError = sorts.Nothing
given_by_known Abort = sorts.Nothing
given_by_known AtomicBegin = sorts.Nothing
given_by_known AtomicEnd = sorts.Nothing
given_by_known Exit = sorts.Nothing
given_by_known _ = sorts.Integer kinds.Int
