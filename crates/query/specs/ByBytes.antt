-- A query by bytes, at any width: where there are too few of them, and where there are enough. Assumes nothing.
use Rattle.std.specs.Prelude.{◌≡◌, List, ℕ, ◌≤◌, ◌<◌, length}
use Rattle.std.proofs.Common.{ap, lt-ltb, le-ltb}
use Rattle.answers.specs.Answers.{refuses}
use Rattle.descriptor.specs.declared.Descriptor.{Descriptor}
use Rattle.descriptor.specs.Descriptor.{descriptor_size, descriptor_of}
use Rattle.fuse.specs.Query.{contains_of, contains_bytes_of}

module _ (w : ℕ) (bytes fingerprints : List ℕ) (key : ℕ) where
  pub short : length bytes < descriptor_size → refuses 7 ≡ contains_bytes_of w bytes fingerprints key
  unfolding contains_bytes_of
  short h = simp (lt-ltb (length bytes) descriptor_size h)

  pub long : {d : Descriptor} → descriptor_size ≤ length bytes → d ≡ descriptor_of bytes
      → contains_of w d fingerprints key ≡ contains_bytes_of w bytes fingerprints key
  unfolding contains_bytes_of
  long h is = simp (le-ltb (length bytes) descriptor_size h) (ap (λ (d : Descriptor). contains_of w d fingerprints key) is)
