-- Inner: places of scopes as the code finds them.
use Rattle.std.specs.Prelude.{ℕ, ◌+◌, ◌-◌, Bool, true, false, length, take}
use Rattle.lz_scopes.specs.declared.place.Place.{Place}
use Rattle.lz_scopes.specs.declared.entering.Outer.{Outer}
use Rattle.lz_scopes.specs.Scopes.{inside, inside_loop}

-- the place behind a scope that began when so many objects were declared, in a loop or not
abbrev pub ended : ℕ → Bool → Place → Place
ended mark in_loop p = record p { names = take mark p.names; depth = p.depth - 1; in_loop = in_loop }

-- the place within a scope that begins there, which is the body of a loop or not
abbrev pub within : Bool → Place → Place
within true place = inside_loop place
within false place = inside place

-- what stands around a function that begins there
abbrev pub outer_of : Place → Outer
outer_of p = record { mark = length p.names; gives = p.gives; in_loop = p.in_loop; counts = p.counts }

-- the place behind a function with a body
abbrev pub left_function : Outer → Place → Place
left_function outer p = record p {
  names = take outer.mark p.names;
  depth = p.depth - 1;
  gives = outer.gives;
  in_loop = outer.in_loop;
  function = p.function + 1;
}

-- the place behind a prototype
abbrev pub left_prototype : Outer → Place → Place
left_prototype outer p = record p {
  names = take outer.mark p.names;
  depth = p.depth - 1;
  gives = outer.gives;
  in_loop = outer.in_loop;
  counts = outer.counts;
}
