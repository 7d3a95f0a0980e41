-- The examples of FIPS 180-4 for SHA-256: one block, and two.
use mathlib.Core.Path.{◌≡◌, refl}
use Prim.Native.String.{String}
use Rattle.base.specs.Bytes.{Bytes, bytes}
use Rattle.base.specs.Hex.{hex_of}
use Rattle.sha256.specs.Message.{digest_of}
use Rattle.sha256.proofs.Computing.{digests}

abbrev pub sha256 : String → Bytes
sha256 message = hex_of (digest_of (bytes message))

pub one_block : sha256 "abc" ≡ bytes "ba7816bf8f01cfea414140de5dae2223b00361a396177a9cb410ff61f20015ad"
unfolding digests
one_block = refl

pub two_blocks : sha256 "abcdbcdecdefdefgefghfghighijhijkijkljklmklmnlmnomnopnopq" ≡ bytes "248d6a61d20638b8e5c026930c3e6039a33ce45964ff2167f6ecedd419db06c1"
unfolding digests
two_blocks = refl
