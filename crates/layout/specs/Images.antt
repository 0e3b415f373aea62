-- The image of a sketch, and the sketch that an image spells. Assumes nothing: these are definitions.
use Rattle.std.specs.Prelude.{ℕ, zero, suc, ◌+◌, ◌*◌, ◌-◌, ◌/◌, ◌<◌, ◌≤◌, min, ◌≡◌, List, [], ◌∷◌, ◌++◌, length, take, drop}
use Rattle.lists.specs.Rows.{pad}
use Rattle.rule.specs.declared.Settings.{Settings}
use Rattle.block.specs.Little.{bytes_of, number_of, number_at}
use Rattle.block.specs.Sums.{sealed}
use Rattle.sketch.specs.declared.Sketch.{Sketch}
use Rattle.sketch.specs.Sketches.{sketch_at, cells_of}

-- the four bytes that an image begins with, as a number
unfoldable pub mark : ℕ
mark = number_of (0x50 ∷ 0x4f ∷ 0x54 ∷ 0x31 ∷ [])

-- the settings: four numbers of four bytes, and the capacity
unfoldable pub settings_bytes : Settings → List ℕ
settings_bytes s = bytes_of 4 s.n ++ (bytes_of 4 s.p ++ (bytes_of 4 s.a ++ (bytes_of 4 s.b ++ bytes_of 2 s.capacity)))

-- the fields of block 0: a mark, the settings, the level and the number of cells
unfoldable pub fields_of : ℕ → Settings → ℕ → ℕ → List ℕ
fields_of m s level count = bytes_of 4 m ++ (settings_bytes s ++ (bytes_of 2 level ++ bytes_of 2 count))

-- the place after the fields
abbrev pub fields_end : ℕ
fields_end = 26

-- what block 0 says, for any mark: the fields, the bytes that follow them, and zeros (RULES: Image)
unfoldable pub head_with : ℕ → List ℕ → Settings → ℕ → ℕ → List ℕ
head_with m tail s level count = pad 508 (fields_of m s level count ++ tail)

-- cells of four bytes each
unfoldable pub cell_bytes : List ℕ → List ℕ
cell_bytes [] = []
cell_bytes (x ∷ xs) = bytes_of 4 x ++ cell_bytes xs

-- what a cell block says: its number, how many cells it holds, the cells, and zeros (RULES: Image)
unfoldable pub body_of : ℕ → List ℕ → List ℕ
body_of i xs = pad 508 (bytes_of 2 i ++ (bytes_of 2 (length xs) ++ cell_bytes xs))

-- how many cell blocks so many cells take
abbrev pub blocks_for : ℕ → ℕ
blocks_for count = (count + 125) / 126

-- m cell blocks from block i on: 126 cells each, and the rest in the last
unfoldable pub cell_blocks : ℕ → ℕ → List ℕ → List ℕ
cell_blocks zero i xs = []
cell_blocks (suc m) i xs = sealed (body_of i (take 126 xs)) ++ cell_blocks m (suc i) (drop 126 xs)

-- block 0, and the cell blocks 1, 2, ..
unfoldable pub image_with : ℕ → List ℕ → Settings → ℕ → List ℕ → List ℕ
image_with m tail s level xs = sealed (head_with m tail s level (length xs)) ++ cell_blocks (blocks_for (length xs)) 1 xs

-- with the mark of an image, and nothing after the fields
abbrev pub image_as : Settings → ℕ → List ℕ → List ℕ
image_as s level xs = image_with mark [] s level xs

-- the image of a sketch (RULES: Image)
unfoldable pub image_of : Sketch → List ℕ
image_of k = image_as k.settings k.level (cells_of k)

-- what the inner writer takes: room of just the image's length, and numbers that fit their bytes
pub record Writable (room : ℕ) (s : Settings) (level count : ℕ) : Type 0 where
  pub size : room ≡ 512 * (1 + blocks_for count)
  pub capacity : s.capacity < 65536
  pub low : level < 65536
  pub few : count ≤ 504

-- the settings in block 0
unfoldable pub said_settings : List ℕ → Settings
said_settings s = record { n = number_at 4 4 s; p = number_at 4 8 s; a = number_at 4 12 s; b = number_at 4 16 s; capacity = number_at 2 20 s }

-- the level in block 0
unfoldable pub said_level : List ℕ → ℕ
said_level s = number_at 2 22 s

-- the number of cells in block 0
unfoldable pub said_count : List ℕ → ℕ
said_count s = number_at 2 24 s

-- so many numbers of four bytes each
unfoldable pub numbers_in : ℕ → List ℕ → List ℕ
numbers_in zero s = []
numbers_in (suc many) s = number_of (take 4 s) ∷ numbers_in many (drop 4 s)

-- so many cells, in m cell blocks: 126 in each, and the rest in the last
unfoldable pub cells_in : ℕ → ℕ → List ℕ → List ℕ
cells_in zero count s = []
cells_in (suc m) count s = numbers_in (min 126 count) (drop 4 (take 512 s)) ++ cells_in m (count - 126) (drop 512 s)

-- all cells of an image: as many as block 0 says
unfoldable pub all_cells : List ℕ → List ℕ
all_cells s = cells_in (blocks_for (said_count s)) (said_count s) (drop 512 s)

-- the sketch that bytes spell
unfoldable pub spelled : List ℕ → Sketch
spelled s = sketch_at (said_settings s) (said_level s) (all_cells s)
