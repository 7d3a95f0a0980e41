-- What the proofs of more than one probe cite.
mod Mark
