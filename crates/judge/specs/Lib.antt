pub mod Offer
