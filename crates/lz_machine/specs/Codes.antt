-- Inner: codes by which proofs tell apart where threads stand: each stage and station as a number with what it holds, paths of them as lists.
use Rattle.std.specs.Prelude.{◌≡◌, ◌⊎◌, ℕ, ◌==◌, List, [], ◌∷◌, refl, if◌then◌else◌}
use Rattle.std.proofs.Common.{inl, inr, ap}
use Rattle.std.specs.Coded.{Coded, code_by, coded×, coded⊎, coded_list, coded_ℕ}
use Rattle.lz_base.specs.declared.word.IntType.TheVariants.{Int, Unsigned}
use Rattle.lz_model.specs.CodeTraces.{Flow, normal, breaks, continues, returns}
use Rattle.lz_turns.specs.Stages as stages
use Rattle.lz_turns.specs.Stages.{Stage, Point, at_stage, within}
use Rattle.lz_stations.specs.Stations as stations
use Rattle.lz_stations.specs.Stations.{Station, Footing, at_station, in_value, in_part}

-- ---- stages

abbrev StageParts : Type 0
StageParts = ℕ × (ℕ × (ℕ × (List ℕ × List ℕ)))

abbrev stage_parts : Stage → StageParts
stage_parts stages.start = (0, (0, (0, ([], []))))
stage_parts stages.given = (1, (0, (0, ([], []))))
stage_parts (stages.settled a) = (2, (a, (0, ([], []))))
stage_parts stages.indexed = (3, (0, (0, ([], []))))
stage_parts (stages.ready a) = (4, (a, (0, ([], []))))
stage_parts (stages.old a) = (5, (a, (0, ([], []))))
stage_parts (stages.valued a) = (6, (a, (0, ([], []))))
stage_parts (stages.writing a b) = (7, (a, (b, ([], []))))
stage_parts (stages.operand a b) = (8, (a, (b, ([], []))))
stage_parts stages.first = (9, (0, (0, ([], []))))
stage_parts (stages.second a) = (10, (a, (0, ([], []))))
stage_parts stages.taken = (11, (0, (0, ([], []))))
stage_parts stages.other = (12, (0, (0, ([], []))))
stage_parts (stages.calling xs) = (13, (0, (0, (xs, []))))
stage_parts (stages.argument xs) = (14, (0, (0, (xs, []))))
stage_parts (stages.passing xs a) = (15, (a, (0, (xs, []))))
stage_parts (stages.handed xs a) = (16, (a, (0, (xs, []))))
stage_parts (stages.arguing xs ys a) = (17, (a, (0, (xs, ys))))
stage_parts (stages.argued xs ys a) = (18, (a, (0, (xs, ys))))
stage_parts (stages.woken a b) = (19, (a, (b, ([], []))))
stage_parts (stages.made a) = (20, (a, (0, ([], []))))

abbrev stage_from : ℕ → ℕ → ℕ → List ℕ → List ℕ → Stage
stage_from n a b xs ys =
    if n == 0 then stages.start else (
    if n == 1 then stages.given else (
    if n == 2 then stages.settled a else (
    if n == 3 then stages.indexed else (
    if n == 4 then stages.ready a else (
    if n == 5 then stages.old a else (
    if n == 6 then stages.valued a else (
    if n == 7 then stages.writing a b else (
    if n == 8 then stages.operand a b else (
    if n == 9 then stages.first else (
    if n == 10 then stages.second a else (
    if n == 11 then stages.taken else (
    if n == 12 then stages.other else (
    if n == 13 then stages.calling xs else (
    if n == 14 then stages.argument xs else (
    if n == 15 then stages.passing xs a else (
    if n == 16 then stages.handed xs a else (
    if n == 17 then stages.arguing xs ys a else (
    if n == 18 then stages.argued xs ys a else (
    if n == 19 then stages.woken a b else (
    stages.made a))))))))))))))))))))

pub stage_back : (stage : Stage) → stage_from (stage_parts stage).0 (stage_parts stage).1.0 (stage_parts stage).1.1.0 (stage_parts stage).1.1.1.0 (stage_parts stage).1.1.1.1 ≡ stage
stage_back stages.start = refl
stage_back stages.given = refl
stage_back (stages.settled a) = refl
stage_back stages.indexed = refl
stage_back (stages.ready a) = refl
stage_back (stages.old a) = refl
stage_back (stages.valued a) = refl
stage_back (stages.writing a b) = refl
stage_back (stages.operand a b) = refl
stage_back stages.first = refl
stage_back (stages.second a) = refl
stage_back stages.taken = refl
stage_back stages.other = refl
stage_back (stages.calling xs) = refl
stage_back (stages.argument xs) = refl
stage_back (stages.passing xs a) = refl
stage_back (stages.handed xs a) = refl
stage_back (stages.arguing xs ys a) = refl
stage_back (stages.argued xs ys a) = refl
stage_back (stages.woken a b) = refl
stage_back (stages.made a) = refl

abbrev pub stage_code : Coded Stage
stage_code =
    code_by StageParts (coded× coded_ℕ (coded× coded_ℕ (coded× coded_ℕ (coded× (coded_list coded_ℕ) (coded_list coded_ℕ))))) stage_parts (λ p. stage_from p.0 p.1.0 p.1.1.0 p.1.1.1.0 p.1.1.1.1) stage_back

-- ---- stations

abbrev flow_parts : Flow → ℕ × ℕ
flow_parts normal = (0, 0)
flow_parts breaks = (1, 0)
flow_parts continues = (2, 0)
flow_parts (returns Int value) = (3, value)
flow_parts (returns Unsigned value) = (4, value)

abbrev flow_from : ℕ → ℕ → Flow
flow_from n value =
    if n == 0 then normal else (
    if n == 1 then breaks else (
    if n == 2 then continues else (
    if n == 3 then returns Int value else returns Unsigned value)))

abbrev StationParts : Type 0
StationParts = ℕ × (ℕ × ℕ)

abbrev station_parts : Station → StationParts
station_parts stations.start = (0, (0, 0))
station_parts (stations.led flow) = (1, ((flow_parts flow).0, (flow_parts flow).1))
station_parts stations.evaluated = (2, (0, 0))
station_parts (stations.listing a) = (3, (a, 0))
station_parts (stations.listed a) = (4, (a, 0))
station_parts (stations.declaring a) = (5, (a, 0))
station_parts (stations.filling a b) = (6, (a, b))
station_parts (stations.arbitrary a b) = (7, (a, b))
station_parts (stations.filled a b) = (8, (a, b))
station_parts (stations.initialized a) = (9, (a, 0))
station_parts stations.tested = (10, (0, 0))
station_parts stations.taken = (11, (0, 0))
station_parts stations.other = (12, (0, 0))
station_parts stations.opened = (13, (0, 0))
station_parts (stations.turning a) = (14, (a, 0))
station_parts (stations.turned a) = (15, (a, 0))
station_parts (stations.bodied a) = (16, (a, 0))
station_parts (stations.changed a) = (17, (a, 0))
station_parts (stations.doing a) = (18, (a, 0))
station_parts stations.returned = (19, (0, 0))
station_parts stations.labelled = (20, (0, 0))

abbrev station_from : ℕ → ℕ → ℕ → Station
station_from n a b =
    if n == 0 then stations.start else (
    if n == 1 then stations.led (flow_from a b) else (
    if n == 2 then stations.evaluated else (
    if n == 3 then stations.listing a else (
    if n == 4 then stations.listed a else (
    if n == 5 then stations.declaring a else (
    if n == 6 then stations.filling a b else (
    if n == 7 then stations.arbitrary a b else (
    if n == 8 then stations.filled a b else (
    if n == 9 then stations.initialized a else (
    if n == 10 then stations.tested else (
    if n == 11 then stations.taken else (
    if n == 12 then stations.other else (
    if n == 13 then stations.opened else (
    if n == 14 then stations.turning a else (
    if n == 15 then stations.turned a else (
    if n == 16 then stations.bodied a else (
    if n == 17 then stations.changed a else (
    if n == 18 then stations.doing a else (
    if n == 19 then stations.returned else (
    stations.labelled))))))))))))))))))))

pub station_back : (station : Station) → station_from (station_parts station).0 (station_parts station).1.0 (station_parts station).1.1 ≡ station
station_back stations.start = refl
station_back (stations.led normal) = refl
station_back (stations.led breaks) = refl
station_back (stations.led continues) = refl
station_back (stations.led (returns Int value)) = refl
station_back (stations.led (returns Unsigned value)) = refl
station_back stations.evaluated = refl
station_back (stations.listing a) = refl
station_back (stations.listed a) = refl
station_back (stations.declaring a) = refl
station_back (stations.filling a b) = refl
station_back (stations.arbitrary a b) = refl
station_back (stations.filled a b) = refl
station_back (stations.initialized a) = refl
station_back stations.tested = refl
station_back stations.taken = refl
station_back stations.other = refl
station_back stations.opened = refl
station_back (stations.turning a) = refl
station_back (stations.turned a) = refl
station_back (stations.bodied a) = refl
station_back (stations.changed a) = refl
station_back (stations.doing a) = refl
station_back stations.returned = refl
station_back stations.labelled = refl

abbrev pub station_code : Coded Station
station_code = code_by StationParts (coded× coded_ℕ (coded× coded_ℕ coded_ℕ)) station_parts (λ p. station_from p.0 p.1.0 p.1.1) station_back

-- ---- points

abbrev point_from : List Stage → Stage → Point
point_from [] last = at_stage last
point_from (stage ∷ rest) last = within stage (point_from rest last)

abbrev stages_of : Point → List Stage
stages_of (at_stage stage) = []
stages_of (within stage inner) = stage ∷ stages_of inner

abbrev last_stage : Point → Stage
last_stage (at_stage stage) = stage
last_stage (within stage inner) = last_stage inner

pub point_back : (point : Point) → point_from (stages_of point) (last_stage point) ≡ point
point_back (at_stage stage) = refl
point_back (within stage inner) = ap (λ (x : Point). within stage x) (point_back inner)

abbrev pub point_code : Coded Point
point_code = code_by (List Stage × Stage) (coded× (coded_list stage_code) stage_code) (λ point. (stages_of point, last_stage point)) (λ p. point_from p.0 p.1) point_back

-- ---- footings

abbrev Foot : Type 0
Foot = Station ⊎ (Station × Point)

abbrev footing_at : Foot → Footing
footing_at (inl station) = at_station station
footing_at (inr p) = in_value p.0 p.1

abbrev footing_from : List Station → Foot → Footing
footing_from [] last = footing_at last
footing_from (station ∷ rest) last = in_part station (footing_from rest last)

abbrev stations_of : Footing → List Station
stations_of (at_station station) = []
stations_of (in_value station point) = []
stations_of (in_part station inner) = station ∷ stations_of inner

abbrev last_station : Footing → Foot
last_station (at_station station) = inl station
last_station (in_value station point) = inr (station, point)
last_station (in_part station inner) = last_station inner

pub footing_back : (footing : Footing) → footing_from (stations_of footing) (last_station footing) ≡ footing
footing_back (at_station station) = refl
footing_back (in_value station point) = refl
footing_back (in_part station inner) = ap (λ (x : Footing). in_part station x) (footing_back inner)

abbrev pub footing_code : Coded Footing
footing_code =
    code_by (List Station × Foot) (coded× (coded_list station_code) (coded⊎ station_code (coded× station_code point_code))) (λ footing. (stations_of footing, last_station footing)) (λ x. footing_from x.0 x.1) footing_back
