-- What `face` and the functions below it cite: where a face's cells stand, the three entries that come in at each, and what
-- writing them leaves.
use Rattle.std.specs.Prelude.{◌≡◌, Bool, List, ℕ, ◌+◌, ◌-◌, ◌*◌, ◌<◌, length, get_or}
use Rattle.lattice.specs.declared.Axis.{Axis}
use Rattle.lattice.specs.declared.Axis.TheVariants.{X, Y}
use Rattle.lattice.specs.declared.Side.{Side}
use Rattle.lattice.specs.declared.Side.TheVariants.{Min, Max}
use Rattle.grid.specs.Grid.{Field}
use Rattle.settings.specs.declared.Face.{Face}
use Rattle.settings.specs.declared.Settings.{Settings}
use Rattle.settings.specs.Tests.{face_of}
use Rattle.streaming.specs.Turned.{facing, seen}
use Rattle.streaming.specs.Rows.{Became}
use Rattle.streaming.specs.Faces.{Names, names, takes, face}
use Rattle.streaming.specs.Streaming.{bounded}
use Rattle.streaming.specs.Three.{each}
use Rattle.streaming.specs.declared.three.Three.{Three}

-- ---- the cells of a face: a column of an x face, a row of a y face

pub record Stretch : Type 0 where
  pub start : ℕ
  pub stride : ℕ
  pub count : ℕ

abbrev pub line_of : Axis → Side → ℕ → ℕ → Stretch
line_of X Min nx ny = record { start = 0; stride = nx; count = ny }
line_of X Max nx ny = record { start = nx - 1; stride = nx; count = ny }
line_of Y Min nx ny = record { start = 0; stride = 1; count = nx }
line_of Y Max nx ny = record { start = (ny - 1) * nx; stride = 1; count = nx }

-- cell k
abbrev pub spot : Stretch → ℕ → ℕ
spot l k = l.start + k * l.stride

-- ---- the three directions that come in

abbrev pub incoming_of : Names → Three ℕ
incoming_of d = record { n = d.n; np = d.np; nm = d.nm }

-- entry i of cell c of n
abbrev pub entry_at : List ℕ → ℕ → ℕ → ℕ → ℕ
entry_at b n c i = get_or b (c + i * n) 0

-- the field that has cell c of n everywhere, seen with the travel turned round or not
abbrev pub alone : Bool → List ℕ → ℕ → ℕ → Field
alone back b n c x y i = entry_at b n c (facing back i)

-- what the three directions of a face take at cell c of n, from the two buffers
abbrev pub taken_at : Axis → Side → Face → Bool → ℕ → List ℕ → List ℕ → ℕ → Three ℕ
taken_at a s kind back n post f c =
    let collided = alone back post n c in
    let standing = alone back f n c in
    each (takes a s kind collided standing 0 0) (incoming_of (names a s))

-- plane i is none of the three
pub record Other (i : ℕ) (p : Three ℕ) : Type 0 where
  pub n : i ≡ p.n → ⊥
  pub np : i ≡ p.np → ⊥
  pub nm : i ≡ p.nm → ⊥

-- ---- what a write leaves

-- one cell: of a grid of n cells, e is d with v in the three planes of cell c, and all else as it was
pub record Changed (d e : List ℕ) (n c : ℕ) (p v : Three ℕ) : Type 0 where
  pub size : length e ≡ length d
  pub written : each (entry_at e n c) p ≡ v
  pub cells : (b i : ℕ) → b < n → (b ≡ c → ⊥) → entry_at e n b i ≡ entry_at d n b i
  pub planes : (b i : ℕ) → b < n → Other i p → entry_at e n b i ≡ entry_at d n b i

-- a line: e is d with v j in the three planes of the line's cell j, for each j below k, and all else as it was
pub record Along (d e : List ℕ) (n : ℕ) (l : Stretch) (p : Three ℕ) (k : ℕ) (v : ℕ → Three ℕ) : Type 0 where
  pub size : length e ≡ length d
  pub written : (j : ℕ) → j < k → each (entry_at e n (spot l j)) p ≡ v j
  pub cells : (b i : ℕ) → b < n → ((j : ℕ) → j < k → b ≡ spot l j → ⊥) → entry_at e n b i ≡ entry_at d n b i
  pub planes : (b i : ℕ) → b < n → Other i p → entry_at e n b i ≡ entry_at d n b i

-- ---- what a face leaves, and what all four leave: under the settings s, with post lent, the buffer f has become e

abbrev pub Faced : Settings → Axis → Side → Bool → List ℕ → List ℕ → List ℕ → Type 0
Faced s a d back post f e =
    let nx = s.nx in
    let ny = s.ny in
    Became back nx ny f e (face a d (face_of s a d) nx ny (seen back nx ny post) (seen back nx ny f))

abbrev pub Bounded : Settings → Bool → List ℕ → List ℕ → List ℕ → Type 0
Bounded s back post f e =
    let nx = s.nx in
    let ny = s.ny in
    Became back nx ny f e (bounded s (seen back nx ny post) (seen back nx ny f))
