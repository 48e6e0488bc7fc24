-- Terrain (MovingAI, map format), its classes, and the steps between cells.
use Rattle.std.specs.Prelude.{ℕ, Bool, true, false, ◌==◌, if◌then◌else◌}
use Rattle.std.specs.Prelude.{Option, Some, None, is_some, unwrap_or}
use Rattle.grid.specs.declared.terrain.Terrain.{Terrain}
use Rattle.grid.specs.declared.terrain.Terrain.TheVariants.{Floor, Grass, Void, OutOfBounds}
use Rattle.grid.specs.declared.terrain.Terrain.TheVariants.{Trees, Swamp, Water}

-- the character of a terrain in a map text
abbrev pub character_of : Terrain → ℕ
character_of Floor = 46
character_of Grass = 71
character_of Void = 64
character_of OutOfBounds = 79
character_of Trees = 84
character_of Swamp = 83
character_of Water = 87

-- the terrain of a character, if it has one
abbrev pub terrain_of : ℕ → Option Terrain
terrain_of b =
    if b == 46 then Some Floor
    else (if b == 71 then Some Grass
    else (if b == 64 then Some Void
    else (if b == 79 then Some OutOfBounds
    else (if b == 84 then Some Trees
    else (if b == 83 then Some Swamp
    else (if b == 87 then Some Water else None))))))

abbrev pub is_terrain : ℕ → Bool
is_terrain b = is_some (terrain_of b)

-- what decides which steps are legal
pub data Class : Type 0 where
  land swamp water blocked : Class

abbrev pub class_of : Terrain → Class
class_of Floor = land
class_of Grass = land
class_of Void = blocked
class_of OutOfBounds = blocked
class_of Trees = blocked
class_of Swamp = swamp
class_of Water = water

-- a straight step may lead from the one class to the other
abbrev pub joins : Class → Class → Bool
joins land land = true
joins land swamp = true
joins swamp land = true
joins swamp swamp = true
joins water water = true
joins _ _ = false

-- the terrain of a terrain character
abbrev pub kind_of : ℕ → Terrain
kind_of b = unwrap_or (terrain_of b) Void
