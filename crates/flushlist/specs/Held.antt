-- What a packed file answers, and when it holds every key of a text. Assumes nothing.
use Rattle.std.specs.Prelude.{Bool, true, List, ◌≡◌, ℕ, ◌<◌, min, length, take, drop, get_or}
use Rattle.answers.specs.Answers.{Answer, gives}
use Rattle.descriptor.specs.Descriptor.{descriptor_size}
use Rattle.fuse.specs.Query.{contains_bytes_of}

-- how many of a file's bytes are read as its descriptor: all of them, where the file is shorter
abbrev pub head_of : List ℕ → ℕ
head_of file = min descriptor_size (length file)

-- the query of the bytes of the descriptor, and of the fingerprints behind them
unfoldable pub asked_of : List ℕ → ℕ → Answer Bool
asked_of file key = contains_bytes_of 8 (take (head_of file) file) (drop (head_of file) file) key

-- every key is answered yes
abbrev pub Held : List ℕ → List ℕ → Type 0
Held file keys = (i : ℕ) → i < length keys → asked_of file (get_or keys i 0) ≡ gives true
