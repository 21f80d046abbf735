-- Reads and writes of cells.
use Rattle.std.proofs.Common.{◌≡◌, ℕ, suc, ◌+◌, ◌<◌, Bool, true, false, cond, List, [], ◌∷◌, length, eqb, ltb, refl, sym, ◌∙◌, ap, arith}
use Rattle.std.specs.Prelude.{slice_index, slice_set}
use Rattle.std.proofs.lemmas.Bool.{eqb-true, eqb-false, eq-eqb, ltb-true}
use Rattle.std.proofs.lemmas.List.{length-set}
use Rattle.lz_model.specs.Store.{State, went, goes_where}
use Rattle.lz_flat.specs.Programs.{Expression, Location, sets}
use Rattle.lz_flat.specs.Instructions.{value, put}
use Rattle.lz_sync.specs.declared.layout.Layout.{Layout}
use Rattle.lz_sync.specs.Standing.{Role, cell, owner, over, holder, main_life, no_life, life, no_wait, wait, place_of, IsOf, said, Tells, StandsFor}
use Rattle.lz_flat.specs.Naming.{LocationNamesOnly}
use Rattle.lz_sync.specs.Operations.{spot_of, reads, writes, IsBeside}
use Rattle.lz_sync.specs.Groups.{spot_word, spot_at}
use Rattle.lz_sync.specs.Doing.{goes, Does}
use Rattle.lz_sync.proofs.TellsLemmas.{word_same, word_other, place_lt, but, set_tells}
use Rattle.lz_sync.proofs.TestsLemmas.{value_spot, put_spot}
use Rattle.lz_sync.proofs.ActingLemmas.{frees, runs_last, length_others, kept_all}
use Rattle.lz_sync.proofs.MutexLemmas.{spot_lt}

-- memory in which a cell has another value
set_cell : (layout : Layout) (m : List ℕ) (state : State) (made : List ℕ) (i v : ℕ) → StandsFor layout m state made → i < layout.cells
    → StandsFor layout (slice_set m (place_of layout (cell i)) v) (record state { cells = slice_set state.cells i v }) made
set_cell layout m state made i v st lt = record {
  fits = record {
    cells = length-set state.cells i v ∙ st.fits.cells;
    mutexes = st.fits.mutexes;
    threads = st.fits.threads;
    rises = st.fits.rises;
    sound = record { owners = st.fits.sound.owners; holder = st.fits.sound.holder; joins = st.fits.sound.joins };
  };
  tells = record { room = t.room; at = λ role has. t.at role has ∙ same role has };
}
  where
    t : Tells layout (slice_set m (place_of layout (cell i)) v) (but (said state made) (cell i) v)
    t = set_tells layout m (said state made) (cell i) v st.tells lt

    long : i < length state.cells
    long = let z = st.fits.cells in omega (arith, lt, z)

    same : (role : Role) → IsOf layout role → but (said state made) (cell i) v role ≡ said (record state { cells = slice_set state.cells i v }) made role
    same (cell j) has = at (eqb j i) refl
      where
        at : (b : Bool) → eqb j i ≡ b → cond b v (slice_index state.cells j) ≡ slice_index (slice_set state.cells i v) j
        at true f = sym (ap (λ (k : ℕ). slice_index (slice_set state.cells i v) k) (eqb-true j i f) ∙ word_same state.cells i v long)
        at false f = sym (word_other state.cells i v j (eqb-false j i f))
    same (owner j) has = refl
    same over has = refl
    same holder has = refl
    same main_life has = refl
    same no_life has = refl
    same (life slot) has = refl
    same no_wait has = refl
    same (wait slot) has = refl

-- a write beside the words that stand for a state
put_beside : (layout : Layout) (m : List ℕ) (state : State) (made : List ℕ) (to : Location) (v : ℕ) → StandsFor layout m state made → LocationNamesOnly (IsBeside layout) to → StandsFor layout (put to v m) state made
unfolding put
put_beside layout m state made to v st names = by (ltb (value to.index m) to.len) refl
  where
    by : (b : Bool) → ltb (value to.index m) to.len ≡ b → StandsFor layout (cond b (slice_set m (to.first + value to.index m) v) m) state made
    by false e = st
    by true e = record {
      fits = st.fits;
      tells = record {
        room = let z = st.tells.room in let y = length-set m (to.first + value to.index m) v in omega (arith, z, y);
        at = λ role has. word_other m (to.first + value to.index m) v (place_of layout role)
            (λ same. let low = place_lt layout role has in let high = names.0 (value to.index m) (ltb-true (value to.index m) to.len e) in let z : ⊥ = omega (arith, same, low, high) in z)
            ∙ st.tells.at role has;
      };
    }

-- a write
pub writes_do : (layout : Layout) (t : ℕ) (to : Location) (of : Expression) → Does layout t (writes to of)
writes_do layout t to of lt few is m state made input l st ix =
    frees layout m m made state made t (sets (spot_at 0 to) of ∷ []) input l (went (record state { cells = slice_set state.cells i v })) st lt
    (λ here. goes (record state { cells = slice_set state.cells i v }) after refl
    (runs_last (spot_at 0 to) of input (suc l) m after v refl (put_spot 0 to v m ix ∙ ap (λ (p : ℕ). slice_set m p v) (let z : 0 + i ≡ i = omega arith in z)))
    (set_cell layout m state made i v st within) (length_others m layout (cell i) v within))
  where
    i : ℕ
    i = spot_of to m

    v : ℕ
    v = value of m

    within : i < layout.cells
    within = let z = is.0 in spot_lt layout.cells to m z.within ix

    after : List ℕ
    after = slice_set m (place_of layout (cell i)) v

-- a read
pub reads_do : (layout : Layout) (t : ℕ) (from to : Location) → Does layout t (reads from to)
reads_do layout t from to lt few is m state made input l st ix =
    frees layout m after made state made t (sets to (spot_word 0 from) ∷ []) input l (goes_where (eqb v (slice_index state.cells i)) state) st lt
    (λ here. goes state after (rw (eq-eqb v (slice_index state.cells i) (st.tells.at (cell i) within)) refl)
    (runs_last to (spot_word 0 from) input (suc l) m after v (value_spot 0 from m ix.0 ∙ ap (λ (p : ℕ). slice_index m p) (let z : 0 + i ≡ i = omega arith in z)) refl)
    (put_beside layout m state made to v st is.1) (kept_all layout after))
  where
    i : ℕ
    i = spot_of from m

    v : ℕ
    v = slice_index m i

    within : i < layout.cells
    within = let z = is.0 in spot_lt layout.cells from m z.within ix.0

    after : List ℕ
    after = put to v m
