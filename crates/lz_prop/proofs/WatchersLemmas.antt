-- What a write to the vector of watchers makes of what it holds.
use Rattle.std.proofs.Common.{◌≡◌, ℕ, ◌<◌, [], ◌∷◌, ◌++◌, map, length, get_or, sym, ◌∙◌, ap}
use Rattle.std.proofs.lemmas.List.{length-map, map_push, get_or-map}
use Rattle.lz_cnf.specs.declared.clause.Lit.{Lit}
use Rattle.lz_prop.specs.declared.watch.Watch.{Watch}
use Rattle.lz_prop.specs.declared.watch.Watcher.{Watcher}
use Rattle.lz_prop.specs.Watchers.{guards_of, next_of}

pub guards_count : (w : Watch) → length (guards_of w) ≡ length w.watchers.items
guards_count w = length-map w.watchers.items (λ (x : Watcher). x.lit)

pub next_count : (w : Watch) → length (next_of w) ≡ length w.watchers.items
next_count w = length-map w.watchers.items (λ (x : Watcher). x.next)

-- one more
pub guards_pushed : (v w : Watch) (x : Watcher) → w.watchers.items ≡ v.watchers.items ++ x ∷ [] → guards_of w ≡ guards_of v ++ x.lit ∷ []
guards_pushed v w x is = ap (map (λ (y : Watcher). y.lit)) is ∙ map_push (λ (y : Watcher). y.lit) v.watchers.items x

pub next_pushed : (v w : Watch) (x : Watcher) → w.watchers.items ≡ v.watchers.items ++ x ∷ [] → next_of w ≡ next_of v ++ x.next ∷ []
next_pushed v w x is = ap (map (λ (y : Watcher). y.next)) is ∙ map_push (λ (y : Watcher). y.next) v.watchers.items x

-- reads
pub guard_read : (w : Watch) (i : ℕ) (x : Watcher) (d : Lit) → i < length w.watchers.items → x ≡ get_or w.watchers.items i x → x.lit ≡ get_or (guards_of w) i d
guard_read w i x d lt is = ap (λ (y : Watcher). y.lit) is ∙ sym (get_or-map (λ (y : Watcher). y.lit) w.watchers.items i x d lt)

pub next_read : (w : Watch) (i : ℕ) (x : Watcher) → i < length w.watchers.items → x ≡ get_or w.watchers.items i x → x.next ≡ get_or (next_of w) i 0
next_read w i x lt is = ap (λ (y : Watcher). y.next) is ∙ sym (get_or-map (λ (y : Watcher). y.next) w.watchers.items i x 0 lt)
